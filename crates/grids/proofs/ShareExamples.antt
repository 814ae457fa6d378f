-- Worked cases of the load in ten-thousandths.
use Rattle.std.specs.Prelude.{Ok, Err}
use mathlib.Core.Path.{◌≡◌, refl, ◌∙◌, ap, ap₂}
use mathlib.Core.List.{[], ◌∷◌}
use Prim.Native.Nat.{ℕ, ◌+◌, ◌*◌, ◌<◌}
use native.Mathlib.Omega.{arith}
use Rattle.words.specs.Ground.{first_of}
use Rattle.words.specs.declared.Ground.TheVariants.{CellValue}
use Rattle.words.proofs.Refusals.{ground_small}
use Rattle.grids.specs.Frame.{frame_tests, load}
use Rattle.grids.specs.Share.{ShareAnswer, exact, told, quotient, remainder, share_tests, TenThousandths, Shared}

-- what an answer says, by its case
share_says : (told (exact 3 4) ≡ (0, 3, 4)) × (told (Err CellValue) ≡ (13, 0, 0))
share_says = (refl, refl)

-- two cells of three: 20,000 = 6,666 × 3 + 2
share_two : (a : ShareAnswer) → Shared 3 1 (1 ∷ 0 ∷ 1 ∷ []) a → a ≡ exact 6666 2
unfolding share_tests load
share_two a p = go a (p.done refl)
  where
    go : (a : ShareAnswer) → TenThousandths (1 ∷ 0 ∷ 1 ∷ []) a → a ≡ exact 6666 2
    go (Ok s) t =
        let whole : s.quotient * 3 + s.remainder ≡ 20000 = t.whole in
        let below : s.remainder < 3 = t.below in
        let e : s.quotient ≡ 6666 = omega arith in
        let f : s.remainder ≡ 2 = omega arith in
        ap₂ exact e f
    go (Err g) t = absurd (let l = (ground_small g).0 in omega (arith, t.answer))

-- all of them: 10,000, and nothing remains
share_all : (a : ShareAnswer) → Shared 1 2 (1 ∷ 1 ∷ []) a → quotient a ≡ 10000
unfolding share_tests load
share_all a p =
    let whole : quotient a * 2 + remainder a ≡ 20000 = (p.done refl).whole in
    let below : remainder a < 2 = (p.done refl).below in
    omega arith

-- no cell: 0, which is no refusal
share_none : (a : ShareAnswer) → Shared 1 1 (0 ∷ []) a → (told a).0 ≡ 0
unfolding share_tests
share_none a p = (p.done refl).answer

share_not : (a : ShareAnswer) → Shared 2 1 (1 ∷ 3 ∷ []) a → told a ≡ (13, 0, 0)
unfolding share_tests
share_not a p = (p.refused (λ e. let n : ◌≡◌ {A = ℕ} 13 0 = e in omega arith)).0

-- three measured cells of five, one of them occupied: 10,000 = 3,333 × 3 + 1
share_measured : (a : ShareAnswer) → Shared 5 1 (2 ∷ 1 ∷ 0 ∷ 2 ∷ 0 ∷ []) a → told a ≡ (0, 3333, 1)
unfolding share_tests load
share_measured a p =
    let whole : quotient a * 3 + remainder a ≡ 10000 = (p.done refl).whole in
    let below : remainder a < 3 = (p.done refl).below in
    tripled (p.done refl).answer (omega arith) (omega arith)
  where
    tripled : {t : ℕ × ℕ × ℕ} {k q r : ℕ} → t.0 ≡ k → t.1 ≡ q → t.2 ≡ r → t ≡ (k, q, r)
    tripled {t} {k} {q} {r} e f g = ap (λ k. (k, t.1, t.2)) e ∙ ap (λ q. (k, q, t.2)) f ∙ ap (λ r. (k, q, r)) g

-- none measured: 16, and only here; a cell above 2 is a measured one, so that 13 and 16 never both hold; no cell at all is refused before
share_none_measured : (first_of (share_tests 2 1 (2 ∷ 2 ∷ [])) ≡ 16) × (first_of (share_tests 2 1 (2 ∷ 3 ∷ [])) ≡ 13)
    × (first_of (frame_tests 2 1 (2 ∷ 2 ∷ [])) ≡ 0) × (first_of (share_tests 2 1 []) ≡ 12) × (first_of (share_tests 2 0 []) ≡ 11)
unfolding share_tests frame_tests
share_none_measured = (refl, refl, refl, refl, refl)
