-- A reader taken apart: its type at a lifetime, and what its slice owns, had beside what the reader owns. A struct of `&` alone is Copy, so the reader
-- keeps all that it has, and no word is copied.
use mathlib.Core.Path.{◌≡◌, refl}
use Prim.Native.Nat.{ℕ, ◌<◌, ◌^◌}
use mathlib.Core.List.{List, [], ◌∷◌}
use lib.ListN.{length}
use seplogic.Ra.Ura.{Ura}
use mir.Syntax.{named, w64}
use mir.Val.{Val, vint}
use base.Logic.{ent, sep}
use base.Fml.{Lft, Fml}
use types.Logic.{Logic, sem}
use contract.Lifetimes.{Lfts}
use types.Kit.{‵, ◌⊛◌, given, ◌$◌, ◌∵◌, !, qed, move, drop, use1, split, learn, fjoin, frame, done}
use denote.RattleType.{RattleType, owns}
use denote.Laws.{Is}
use denote.Plain.{uint_Makes}
use denote.Builtin.{u32, usize}
use denote.Ref.{Bor}
use denote.Signature.{named_lft}
use denote.Slice.{slice_val, ShrSlice}
use denote.Steps.{nothing, owned}
use denote.Struct.Declared.{Declared}
use denote.Struct.Laws as LL
use denote.Struct.Rest.{all_own, field_own, rest, own_open, own_out}
use denote.Struct.Values.{Values}
use Rattle.readers.specs.declared.Reader.{Reader}
use Rattle.readers.specs.contracts.Reader as T
use Rattle.readers.proofs.Reader.TheLaws as T'

-- the reader's type, over a signature's lifetimes
abbrev pub B : Lfts 1 → RattleType
B κs = T.the_row (named_lft 1 0 tt κs)

-- its declaration, and the laws of that
abbrev pub D : Lft → Declared
D κ = T.the_type (named_lft 1 0 tt (κ, tt))

abbrev pub L : (κ : Lft) → LL.Laws (D κ)
L κ = T'.the_laws (named_lft 1 0 tt (κ, tt))

-- the machine value of a slice of words: where it begins, and its length
abbrev pub value : Bor (List ℕ) → Val
value s = slice_val s.ref_ptr (length s.now)

-- what a slice of words owns, and what a reader does
abbrev pub SliceOwns : Lft → Bor (List ℕ) → Fml
SliceOwns κ s = (ShrSlice (named 0) κ u32).own_val s (value s ∷ [])

abbrev pub ReaderOwns : Lft → Reader → Fml
ReaderOwns κ d = (B (κ, tt)).own_val d (T'.lowered d ∷ [])

module _ {M : Type 1} {𝓤 : Ura M} (𝓛 : Logic 𝓤) (κ : Lft) (d : Reader) where
  abbrev fields : Values (D κ).parts
  fields = (d.words, (d.at, tt))

  pub lends : ent 𝓤 (sem 𝓛 (ReaderOwns κ d)) (sep 𝓤 (sem 𝓛 (SliceOwns κ d.words)) (sem 𝓛 (ReaderOwns κ d)))
  lends =
      qed 𝓛 (‵ (ReaderOwns κ d) ∷ []) ∵
      use1 𝓛 (‵ (ReaderOwns κ d) ⊛ ‵ (ReaderOwns κ d)) ((LL.copy (D κ) (T'.the_copy (named_lft 1 0 tt (κ, tt))) 𝓛).twice d (T'.lowered d ∷ [])) $ split ! $
      use1 𝓛 (given (T'.lowered d ∷ [] ≡ T'.lowered d ∷ []) (‵ (all_own (D κ).parts (L κ) fields))) (own_open 𝓛 (D κ) (L κ) fields (T'.lowered d)) $
      learn ! (λ _.
      use1 𝓛 (‵ (field_own (D κ).parts (L κ) 0 d.words) ⊛ ‵ (rest (D κ).parts (L κ) 0 fields)) (own_out 𝓛 (D κ).parts (L κ) 0 fields) $ split ! $
      -- [what the slice owns; what the position owns; what the reader owns]
      move ! (1 ∷ []) $ drop ! $ frame ! $ done !)

  -- what a callee on the slice and the position is passed
  abbrev pub passed : List Val × (List Val × Unit {0})
  passed = (value d.words ∷ [], (vint w64 d.at ∷ [], tt))

  pub passes : d.at < 2 ^ 64
      → ent 𝓤 (sem 𝓛 (ReaderOwns κ d))
      (sep 𝓤 (sem 𝓛 (owns (ShrSlice (named 0) κ u32 ∷ usize ∷ []) (d.words, (d.at, tt)) passed)) (sem 𝓛 (ReaderOwns κ d)))
  passes fits =
      qed 𝓛 (‵ (ReaderOwns κ d) ∷ []) ∵ use1 𝓛 (‵ (SliceOwns κ d.words) ⊛ ‵ (ReaderOwns κ d)) lends $ split ! $
      nothing ! $ owned ! usize (Is usize) (uint_Makes 𝓛 w64) d.at _ (refl, fits) $ fjoin ! $ move ! (1 ∷ 0 ∷ []) $ fjoin ! $ frame ! $ done !
