-- Document 02, W1, the claim: two frames of W × H free cells, written by nobody but the call; after every list of arrivals, those that are refused among them,
-- the kept frame is the dilation of the rows now present. Over lists of calls by their promises (`Arrivals`), for any plan words, W and H.
use Rattle.rolling.specs.Claim.{Rolling, Step, ShapeRolling, Present}

pub record Waterfall : Type 0 where
  -- after every list of arrivals the kept frame is what document 01's dilation by the plan's points gives directly of the live frame
  pub right : Rolling
  -- its step: what is right before a call is right after it
  pub step : Step
  -- with the words that planning wrote for a shape, it is what the shape gives
  pub shape : ShapeRolling
  -- and the live frame is the rows now present: of the free rows and all rows that were not refused, the last H
  pub present : Present
