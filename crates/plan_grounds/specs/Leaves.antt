-- What the test of neighbouring stage words computes; proofs/ has that it is the definition of ground 7.
use Rattle.std.specs.Prelude.{Bool, ℕ, ltb}
use Rattle.words.specs.Word.{stage_mask}

-- the mask of a stage word is below that of the word before
abbrev pub falls : ℕ → ℕ → Bool
falls v w = ltb (stage_mask w) (stage_mask v)
