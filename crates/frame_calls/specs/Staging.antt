-- What a single stage that no ground refuses finds, and what it makes of one level of a grid.
use Rattle.std.specs.Prelude.{◌≡◌, Bool, true, false, not, List, ℕ, ◌+◌, ◌≤◌, ◌<◌, T, length, get_or, take, drop}
use Rattle.grids.specs.Frame.{bad_size, bad_cell, grid_size, full}
use Rattle.grids.specs.Grid.{grid_bytes, once}
use Rattle.grids.specs.declared.Around.{Around}
use Rattle.planes.specs.Bits.{level}
use Rattle.planes.specs.Planes.{plane_size, Shows, PlaneOnly}

-- sides that pass, a grid in g no byte of which is above 2, and room for one in i
pub record StageReady (W H : ℕ) (g i : List ℕ) : Type 0 where
  pub sides : bad_size W H ≡ false
  pub cells : T (not (bad_cell (take (grid_size W H) g)))
  pub read : grid_size W H ≤ length g
  pub room : grid_size W H ≤ length i

-- no byte of the grid is above 1: one plane has both levels of it
abbrev pub GridMeasured : ℕ → ℕ → List ℕ → Type 0
GridMeasured W H g = (k : ℕ) → k < grid_size W H → get_or g k 0 ≤ full

-- bytes with room for a plane, and for a second from byte o on; where o is 0 there is one
pub record PlanesReady (o W H : ℕ) (g p : List ℕ) : Type 0 where
  pub few : o ≤ 65535
  pub room : o + plane_size (W + 15) (H + 15) ≤ length p
  pub one : o ≡ 0 → GridMeasured W H g
  pub two : (o ≡ 0 → ⊥) → plane_size (W + 15) (H + 15) ≤ o

-- one level of the grid was packed into d and taken through the stage into p
pub record LevelTaken (some erode : Bool) (k : Around) (W H m : ℕ) (g d p d' p' : List ℕ) : Type 0 where
  pub packed : PlaneOnly (W + 15) (H + 15) d d'
  pub kept : PlaneOnly (W + 15) (H + 15) p p'
  pub shown : Shows (W + 15) (H + 15) (λ q. level some (grid_bytes k W H (once erode k W H m g) q)) p'

-- the second level was, into the bytes of p from o on
pub record SecondTaken (o : ℕ) (erode : Bool) (k : Around) (W H m : ℕ) (g d p d' p' : List ℕ) : Type 0 where
  pub packed : PlaneOnly (W + 15) (H + 15) d d'
  pub size : length p' ≡ length p
  pub front : (n : ℕ) → n < o → get_or p' n 0 ≡ get_or p n 0
  pub shown : Shows (W + 15) (H + 15) (λ q. level true (grid_bytes k W H (once erode k W H m g) q)) (drop o p')

-- both levels were: the planes in p, of which the second starts at byte o, have both levels of the grid after the stage
pub record LevelsTaken (o : ℕ) (erode : Bool) (k : Around) (W H m : ℕ) (g d p d' p' : List ℕ) : Type 0 where
  pub packed : PlaneOnly (W + 15) (H + 15) d d'
  pub size : length p' ≡ length p
  pub one : Shows (W + 15) (H + 15) (λ q. level false (grid_bytes k W H (once erode k W H m g) q)) p'
  pub some : Shows (W + 15) (H + 15) (λ q. level true (grid_bytes k W H (once erode k W H m g) q)) (drop o p')
