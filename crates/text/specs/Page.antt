-- Document 01, "Printer": a page is the text of at most 32 lines of a word, by value.
use Rattle.std.specs.Prelude.{◌≡◌, List, ◌++◌, ℕ, ◌+◌, ◌-◌, ◌≤◌, length, drop, replicate}
use Rattle.text.specs.declared.Page.{Page}

-- the page holds the text, and past it zeros
pub record Holds (text : List ℕ) (p : Page) : Type 0 where
  pub fits : length text ≤ 288
  pub count : p.n ≡ length text
  pub bytes : p.bytes ≡ text ++ replicate (288 - length text) 0

-- past its text the page has zeros
abbrev pub Blank : Page → Type 0
Blank p = drop p.n p.bytes ≡ replicate (288 - p.n) 0

-- r is the page p with more text, where there is room for it
pub record Added (p : Page) (more : List ℕ) (r : Page) : Type 0 where
  pub held : (text : List ℕ) → length text + length more ≤ 288 → Holds text p → Holds (text ++ more) r
