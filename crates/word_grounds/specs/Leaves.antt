-- What the test of one word computes, by arithmetic on the word; proofs/ has that this is ground 3.
use Rattle.std.specs.Prelude.{Bool, ℕ, ◌%◌, ◌^◌, leb}

-- the part of a word below its kind is limit or more
abbrev pub reaches : ℕ → ℕ → Bool
reaches limit w = leb limit (w % 2 ^ 28)
