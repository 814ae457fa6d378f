-- Each arm of the match is one operation: its passes, in order.
use Rattle.turn_steps.proofs.Ending.{dilation_ends, erosion_ends, opening_ends, closing_ends}
use Rattle.turn_steps.proofs.turns.stages.Goals as goal

pub returns-in-Dilation : goal.returns-in-Dilation
returns-in-Dilation c = dilation_ends _ c.in-Dilation.is c.pass.ensures

pub returns-in-Erosion : goal.returns-in-Erosion
returns-in-Erosion c =
    erosion_ends _ c.in-Erosion.is c.pass-in-Erosion.ensures

pub returns-in-Opening : goal.returns-in-Opening
returns-in-Opening c =
    opening_ends _ c.in-Opening.is
    c.pass-n.ensures
    c.pass-in-Opening.ensures

pub returns-in-Closing : goal.returns-in-Closing
returns-in-Closing c =
    closing_ends _ c.in-Closing.is
    c.pass-n-in-Closing.ensures
    c.pass-in-Closing.ensures
