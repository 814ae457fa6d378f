-- The tests of the frame, and the one of both images more.
use mathlib.Core.Bool.{◌||◌}
use Rattle.grids.specs.Frame.{short_image}
use Rattle.words.proofs.Refusals.{tried_more}
use Rattle.frame_grounds.specs.Looking.{frame_tests_by, work_tests_by}
use Rattle.frame_grounds.proofs.Looked.{size_passes_by}
use Rattle.frame_grounds.proofs.work_refusal.Goals as goal

pub returns : goal.returns
unfolding frame_tests_by work_tests_by
returns c =
    let a = c.args in
    let short = short_image a.w a.h a.first.now || short_image a.w a.h a.second.now in
    tried_more c.tried_behind.ensures (frame_tests_by a.w a.h a.frame.now a.greatest) short tt c.frame_tested.ensures
    (λ z. c.short_images.ensures (size_passes_by a.w a.h a.frame.now a.greatest z))
