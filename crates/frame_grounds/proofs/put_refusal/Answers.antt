-- The tests of the frame, and the one of the image more.
use Rattle.grids.specs.Frame.{frame_tests}
use Rattle.grids.specs.Grid.{put_tests}
use Rattle.words.proofs.Refusals.{tried_more}
use Rattle.frame_grounds.proofs.Accepted.{size_passes}
use Rattle.frame_grounds.proofs.put_refusal.Goals as goal

pub returns : goal.returns
unfolding frame_tests put_tests
returns c =
    let a = c.args in
    tried_more c.tried_behind.ensures (frame_tests a.w a.h a.frame.now) _ tt c.frame_refusal.ensures
    (λ z. c.short_image.ensures (size_passes a.w a.h a.frame.now z))
