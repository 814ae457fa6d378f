-- Document 01, "Stages and plans": a plan turned back. What planning wrote for an accepted shape, as many words as the length returned, is turned back without
-- a refusal, and what is written is exactly the list of the shape's points, with the least anchor.
use Rattle.std.specs.Prelude.{◌≡◌, List, ℕ, ◌≤◌, length, take}
use Rattle.words.specs.Ground.{Answer}
use Rattle.words.specs.Ground.{first_of, stated}
use Rattle.shapes.specs.Calls.{ListWritten, TurnedBack}
use Rattle.shapes.specs.Shape.{shape_points}
use Rattle.planning.specs.Planning.{planning_tests, PlanWritten}

abbrev pub RoundTrip : Type 0
RoundTrip =
    (ws out : List ℕ) (r : Answer) (out' : List ℕ) → first_of (planning_tests ws out) ≡ 0 → PlanWritten ws out r out'
    → (back : List ℕ) (s : Answer) (back' : List ℕ) → 17 ≤ length back → TurnedBack (take (stated r).1 out') back s back'
    → ListWritten (shape_points ws) back s back'
