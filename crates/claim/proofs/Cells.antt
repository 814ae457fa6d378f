-- What putting, the single stage and the load promise, said of points: a grid with the cells of a picture is the picture at its plane cells.
use Rattle.std.specs.Prelude.{Ok, Err}
use mathlib.Core.Path.{◌≡◌, refl, sym, ◌∙◌, ap, ap₂, subst, fun_ext}
use mathlib.Core.Bool.{Bool, true, false}
use mathlib.Core.List.{List}
use Prim.Native.Nat.{ℕ, suc, ◌+◌, ◌*◌, ◌<◌, ◌≤◌}
use native.Mathlib.Omega.{arith}
use native.Mathlib.Nat.{mul_comm, mul-le-mul_right}
use lib.Dec.{eqb, eqb→eq, nltb→le}
use lib.IntN.{pos, +ℤ_idr}
use lib.ListN.{length, get_or, drop, get_or-append}
use Rattle.plane.specs.Lists.{In}
use Rattle.plane.specs.Point.{Point, PointSet, ◌+ᵖ◌, negᵖ, ◌-ᵖ◌}
use Rattle.plane.proofs.Algebra.{+ᵖ_origin}
use Rattle.plane.proofs.Tests.{not_or, un_not}
use Rattle.words.specs.Ground.{first_of, stated, result}
use Rattle.words.specs.Word.{stage_mask}
use Rattle.words.specs.Ground.{Answer}
use Rattle.words.proofs.Refusals.{clear, ground_small}
use Rattle.masks.specs.Mask.{mask_points}
use Rattle.grids.specs.Frame.{over, frame, grid_size, short_image, frame_tests, load, LoadCounted}
use Rattle.grids.specs.Grid.{outside_of, corner, grid, laid, put, written, put_tests, FramePut, stage_tests, Staged}
use Rattle.grids.specs.Rules.{Gives}
use Rattle.grids.specs.Share.{ShareAnswer, measured, share_tests, TenThousandths, Shared}
use Rattle.grids.specs.declared.Around.{Around}
use Rattle.grids.specs.declared.Around.TheVariants.{Free, Occupied}
use Rattle.grids.proofs.Load.{load_points, measured_points_lem}
use Rattle.grids.proofs.Pictures.{get_d_cells, length_cells}
use Rattle.grids.proofs.Rules.{over_makes}
use Rattle.grids.proofs.Stage.{grid_upto, once_is}
use Rattle.cleaning.proofs.Starts.{over_length, over_past}
use Rattle.claim.specs.Frames.{byte_at, from_start, beyond, grid_plane, GridIs, StageGives}
use Rattle.claim.specs.Shows.{occupied_points, measured_points, ShareShows}

-- the byte's plane cell is as far from the grid's start as the byte is from the first
at_byte : (k : Around) (x y : ℕ) → (pos x, pos y) -ᵖ corner k ≡ byte_at k x y
unfolding ◌+ᵖ◌ negᵖ
at_byte Free x y = ap₂ (λ a b. (a, b)) (+ℤ_idr (pos x)) (+ℤ_idr (pos y))
at_byte Occupied x y = refl

pub outside_is : (k : Around) → outside_of k ≡ beyond k
outside_is Free = refl
outside_is Occupied = refl

-- an image whose grid is a picture
pub grid_is : (k : Around) (W H : ℕ) (F : Point → ℕ) (Is : Point → ℕ → Type 0) (i i' : List ℕ) → ((p : Point) → Is p (F p)) → grid_size W H ≤ length i
    → (r : Answer) → stated r ≡ result 0 → i' ≡ written W H (laid k W H F) i → GridIs k W H Is i r i'
grid_is k W H F Is i i' s long r a e = record {
  answer = a;
  size = ap length e ∙ over_length g i G G size (omega arith) long;
  past = ap (drop G) e ∙ over_past g i G G size (omega arith) long;
  cell = λ x y h l. let p = byte_at k x y in subst (Is p) (sym (at x y h l)) (s p);
}
  where
    G : ℕ
    G = grid_size W H

    g : List ℕ
    g = laid k W H F

    size : length g ≡ G
    size = length_cells (W + 15) (H + 15) (λ p. F (p -ᵖ corner k)) ∙ mul_comm (H + 15) (W + 15)

    at : (x y : ℕ) → x < W + 15 → y < H + 15 → get_or i' (y * (W + 15) + x) 0 ≡ F (byte_at k x y)
    at x y h l =
        let m = mul-le-mul_right {m = suc y} {n = H + 15} (W + 15) l in
        let n : y * (W + 15) + x < length g = omega (arith, size, mul_comm (W + 15) (H + 15)) in
        ap (λ v. get_or v (y * (W + 15) + x) 0) e ∙ get_or-append g (drop G i) 0 (y * (W + 15) + x) n
        ∙ get_d_cells (W + 15) (H + 15) (λ p. F (p -ᵖ corner k)) x y 0 h l ∙ ap F (at_byte k x y)

-- ---- putting

pub put_as : (k : Around) (W H : ℕ) (f i : List ℕ) (r : Answer) (i' : List ℕ) → FramePut k W H f i r i' → first_of (put_tests W H f i) ≡ 0
    → (Is : Point → ℕ → Type 0) → ((p : Point) → Is p (frame (outside_of k) W H f p)) → GridIs k W H Is i r i'
unfolding frame_tests put_tests put
put_as k W H f i r i' p e Is s =
    let c = clear (put_tests W H f i) tt e in
    grid_is k W H (frame (outside_of k) W H f) Is i i' s (nltb→le (length i) (grid_size W H) c.1.1.1.0) r (p.done e).answer (p.done e).image

pub put_shown : (k : Around) (W H : ℕ) (f i : List ℕ) (r : Answer) (i' : List ℕ) → FramePut k W H f i r i' → first_of (put_tests W H f i) ≡ 0
    → GridIs k W H (λ p v. v ≡ frame (beyond k) W H f p) i r i'
put_shown k W H f i r i' p e = put_as k W H f i r i' p e (λ q v. v ≡ frame (beyond k) W H f q) (λ q. ap (λ v. frame v W H f q) (outside_is k))

-- ---- the single stage

-- a plane cell is as far from the grid's start as its byte is from the first
from_start_lem : (k : Around) (p : Point) → p +ᵖ corner k ≡ from_start k p
from_start_lem Free p = +ᵖ_origin p
from_start_lem Occupied p = refl

-- the grid that is read is the plane as the demand has it
pub grid_plane_lem : (k : Around) (W H : ℕ) (g : List ℕ) → grid k W H g ≡ grid_plane k W H g
grid_plane_lem k W H g = fun_ext (λ p. ap₂ (λ v q. frame v (W + 15) (H + 15) g q) (outside_is k) (from_start_lem k p))

pub stage_as : (erode : Bool) (k : Around) (w W H : ℕ) (g i : List ℕ) (r : Answer) (i' : List ℕ) → Staged erode k w W H g i r i'
    → first_of (stage_tests w W H g i) ≡ 0
    → (Is : Point → ℕ → Type 0) → ((p : Point) → Is p (over erode (mask_points (stage_mask w)) (grid k W H g) p)) → GridIs k W H Is i r i'
unfolding stage_tests
stage_as erode k w W H g i r i' p e Is s =
    let c = clear (stage_tests w W H g i) tt e in
    let m = stage_mask w in
    let u = (not_or (short_image W H g) (short_image W H i)).0 c.1.1.1.1.1.0 in
    grid_is k W H (over erode (mask_points m) (grid k W H g)) Is i i' s (nltb→le (length i) (grid_size W H) u.1) r (p.done e).answer
    ((p.done e).image ∙ ap (λ l. written W H l i) (once_is erode k W H m g))

-- the rule of the documents
rule : (erode : Bool) (A : PointSet) (f : Point → ℕ) (p : Point) (v : ℕ) → Gives erode A f p v → StageGives erode A f p v
rule true A f p v h = h
rule false A f p v h = h

pub stage_shown : (erode : Bool) (k : Around) (w W H : ℕ) (g i : List ℕ) (r : Answer) (i' : List ℕ) → Staged erode k w W H g i r i'
    → first_of (stage_tests w W H g i) ≡ 0
    → GridIs k W H (StageGives erode (In (mask_points (stage_mask w))) (grid_plane k W H g)) i r i'
unfolding stage_tests
stage_shown erode k w W H g i r i' p e =
    let P = mask_points (stage_mask w) in
    let b = grid_upto k W H g (clear (stage_tests w W H g i) tt e).1.1.1.1.0 in
    stage_as erode k w W H g i r i' p e (StageGives erode (In P) (grid_plane k W H g)) (λ q.
    subst (λ f. StageGives erode (In P) f q (over erode P (grid k W H g) q)) (grid_plane_lem k W H g)
    (rule erode (In P) (grid k W H g) q (over erode P (grid k W H g) q) (over_makes erode P (grid k W H g) b q)))

-- ---- the load

-- the load of an accepted frame is the number of its points that are occupied
load_is : (W H : ℕ) (f : List ℕ) → first_of (frame_tests W H f) ≡ 0 → load f ≡ occupied_points W H f
unfolding frame_tests
load_is W H f e =
    let c = clear (frame_tests W H f) tt e in
    load_points W H f (eqb→eq (length f) (W * H) (un_not (eqb (length f) (W * H)) c.1.0))

pub load_counted : (W H : ℕ) (f : List ℕ) (r : Answer) → LoadCounted W H f r → first_of (frame_tests W H f) ≡ 0 → stated r ≡ result (occupied_points W H f)
load_counted W H f r p e = p.done e ∙ ap result (load_is W H f e)

-- and with those that were measured
share_counts : (W H : ℕ) (f : List ℕ) → first_of (share_tests W H f) ≡ 0 → (load f ≡ occupied_points W H f) × (measured f ≡ measured_points W H f)
unfolding share_tests
share_counts W H f e =
    let c = clear (share_tests W H f) tt e in
    let l = eqb→eq (length f) (W * H) (un_not (eqb (length f) (W * H)) c.1.0) in
    (load_points W H f l, measured_points_lem W H f l)

pub share_shown : (W H : ℕ) (f : List ℕ) (a : ShareAnswer) → Shared W H f a → first_of (share_tests W H f) ≡ 0
    → ShareShows (occupied_points W H f) (measured_points W H f) a
share_shown W H f a p e = subst (λ n. ShareShows n (measured_points W H f) a) c.0 (subst (λ m. ShareShows (load f) m a) c.1 (go a (p.done e)))
  where
    c : (load f ≡ occupied_points W H f) × (measured f ≡ measured_points W H f)
    c = share_counts W H f e

    go : (a : ShareAnswer) → TenThousandths f a → ShareShows (load f) (measured f) a
    go (Ok s) t = record { quotient = s.quotient; remainder = s.remainder; answer = refl; whole = t.whole; below = t.below }
    go (Err g) t = absurd (let l = (ground_small g).0 in omega (arith, t.answer))
