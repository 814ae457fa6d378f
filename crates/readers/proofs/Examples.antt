-- Worked cases of a reader on document 01's row of four cells, 10000000 and 2000000f: an anchor, a row, and then the end.
use mathlib.Core.Path.{◌≡◌, refl}
use mathlib.Core.List.{List, [], ◌∷◌}
use Prim.Native.Nat.{ℕ}
use Rattle.words.specs.declared.Word.TheVariants.{Anchor, Row}
use Rattle.readers.specs.Cursor.{item_at, left_at, after}
use Rattle.std.specs.Prelude.{Some, None}

four : List ℕ
four = 268435456 ∷ 536870927 ∷ []

anchor_first : item_at four 0 ≡ Some (Anchor 0 0)
unfolding four
anchor_first = refl

row_next : item_at four (after four 0 1) ≡ Some (Row 0 15)
unfolding four
row_next = refl

end_then : item_at four (after four 0 2) ≡ None
unfolding four
end_then = refl

-- two words from the first, one from the second, none at the end, nor past it
left_each : (left_at four 0 ≡ 2) × ((left_at four 1 ≡ 1) × ((left_at four 2 ≡ 0) × (left_at four 5 ≡ 0)))
unfolding four
left_each = (refl, (refl, (refl, refl)))

-- however far it is moved on, it comes to stand at the end
never_past : after four 1 7 ≡ 2
unfolding four
never_past = refl
