-- Where all tests hold, all that is asked for is there; the greatest number tells that no cell is above 2.
use Rattle.std.proofs.Common.{arith, ◌≡◌, ◌*◌, ◌≤◌, length, false}
use Rattle.grids.specs.Frame.{bad_size}
use Rattle.words.specs.Word.{place_x, place_y}
use Rattle.turn_steps.specs.Turns.{Worded}
use Rattle.end_steps.proofs.EndPlanes.{none_great}
use Rattle.end_steps.proofs.part_passes.Goals as goal

pub returns-then-part-e-clause-yes : goal.returns-then-part-e-clause-yes
returns-then-part-e-clause-yes c l =
    let a = c.args in
    let u : bad_size a.w a.e ≡ false = grind arith in
    let z : length a.part.now ≡ a.e * a.w = grind arith in
    let g : a.greatest ≤ 2 = grind arith in
    record {
      words = (grind arith, grind arith);
      across = grind arith;
      down = grind arith;
      sides = u;
      rows = grind arith;
      size = z;
      clean = none_great a.w a.e a.part.now u z c.requires g;
    }
