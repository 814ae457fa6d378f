-- A search over lists of stages that the checker computes: whatever list sums to the given cells, it finds one that is not above it. It tries the stages in
-- order, and leaves out those that do not fit.
use mathlib.Core.Path.{◌≡◌, refl, sym, ◌∙◌, ap, subst}
use mathlib.Core.Logic.{◌↔◌, ◌⊎◌, inl, inr}
use mathlib.Core.Bool.{Bool, not, cond, ◌&&◌}
use mathlib.Core.List.{List, [], ◌∷◌}
use mathlib.Core.Option.{Option, some, none}
use Prim.Native.Nat.{ℕ, zero, suc, ◌+◌, ◌-◌, ◌≤◌, ◌<◌}
use native.Mathlib.Omega.{arith}
use native.Mathlib.Decide.{ℕ_discrete}
use lib.Dec.{T, leb, ltb, eqb, eqb→eq, eqb_refl, ltb→lt, lt→ltb, le→leb, nltb→le, not_T}
use lib.ListN.{length}
use Rattle.plane.specs.Lists.{In, any, all}
use Rattle.plane.specs.Point.{Cell}
use Rattle.plane.proofs.Member.{In-any, In-all, all_In}
use Rattle.plane.proofs.Tests.{T_and, T_or, not_or, cond_ind, clash}
use Rattle.masks.specs.Chain.{falling}
use Rattle.masks.specs.Mask.{mask_cells, stage}
use Rattle.masks.proofs.Cells.{add_cell, cell_sums, sum_cells, In-sums, stage_below, pair}
use Rattle.masks.proofs.Order.{not_above}

-- the same cells
abbrev pub Same : List Cell → List Cell → Type 0
Same A B = (c : Cell) → In A c ↔ In B c

unfoldable pub mem : List Cell → Cell → Bool
mem A c = any (λ b. eqb c.0 b.0 && eqb c.1 b.1) A

pub mem_in : (A : List Cell) (c : Cell) → T (mem A c) ↔ In A c
unfolding mem
mem_in A c = (
  λ t. let r = (In-any is A).0 t in
      let u = (T_and (eqb c.0 r.0.0) (eqb c.1 r.0.1)).0 r.2 in
      let e : c ≡ r.0 = pair (eqb→eq c.0 r.0.0 u.0) (eqb→eq c.1 r.0.1 u.1) in
      subst (In A) (sym e) r.1,
  λ h. (In-any is A).1 (c, h, (T_and (eqb c.0 c.0) (eqb c.1 c.1)).1 (eqb_refl c.0, eqb_refl c.1)),
)
  where
    is : Cell → Bool
    is b = eqb c.0 b.0 && eqb c.1 b.1

unfoldable pub same : List Cell → List Cell → Bool
same A B = all (mem B) A && all (mem A) B

pub same_is : (A B : List Cell) → T (same A B) ↔ Same A B
unfolding same
same_is A B = (
  λ t c. let u = (T_and (all (mem B) A) (all (mem A) B)).0 t in
      (λ h. (mem_in B c).0 (In-all (mem B) A u.0 c h), λ h. (mem_in A c).0 (In-all (mem A) B u.1 c h)),
  λ s. (T_and (all (mem B) A) (all (mem A) B)).1 (all_In (mem B) A (λ c h. (mem_in B c).1 ((s c).0 h)), all_In (mem A) B (λ c h. (mem_in A c).1 ((s c).1 h))),
)

-- where b stands when c is moved to p
abbrev spot : Cell → Cell → Cell → Cell
spot p c b = (p.0 - c.0 + b.0, p.1 - c.1 + b.1)

-- no coordinate of c is above that of p, and when c is moved to p all of Y stays in A
abbrev cover : List Cell → List Cell → Cell → Cell → Bool
cover A Y p c = leb c.0 p.0 && leb c.1 p.1 && all (λ b. mem A (spot p c b)) Y

-- A is (A ⊖ Y) ⊕ Y: each cell p of A is some cell c of Y moved so that all of Y stays in A
unfoldable pub fits : List Cell → List Cell → Bool
unfolding mem
fits A Y = all (λ p. any (cover A Y p) Y) A

pub fits_sum : (A Y Z : List Cell) → Same A (cell_sums Y Z) → T (fits A Y)
unfolding fits
fits_sum A Y Z s = all_In (λ p. any (cover A Y p) Y) A (λ p h. one p ((In-sums Y Z p).0 ((s p).0 h)))
  where
    low : (p y z : ℕ) → p ≡ y + z → y ≤ p
    low p y z e = omega arith

    back : (p y z b : ℕ) → p ≡ y + z → p - y + b ≡ b + z
    back p y z b e = omega arith

    -- where p is y + z and y is moved to p, each b of Y goes to b + z
    stays : (p y z b : Cell) → p.0 ≡ y.0 + z.0 → p.1 ≡ y.1 + z.1 → In Z z → In Y b → T (mem A (spot p y b))
    stays p y z b e₀ e₁ h k =
        let e : spot p y b ≡ add_cell b z = pair (back p.0 y.0 z.0 b.0 e₀) (back p.1 y.1 z.1 b.1 e₁) in
        (mem_in A (spot p y b)).1 ((s (spot p y b)).1 ((In-sums Y Z (spot p y b)).1 (b, z, k, h, e)))

    one : (p : Cell) → ((y : Cell) × (z : Cell) × In Y y × In Z z × (p ≡ add_cell y z)) → T (any (cover A Y p) Y)
    one p r =
        let y = r.0 in
        let z = r.1 in
        let e₀ : p.0 ≡ y.0 + z.0 = ap (λ c. c.0) r.4 in
        let e₁ : p.1 ≡ y.1 + z.1 = ap (λ c. c.1) r.4 in
        let x-low = le→leb y.0 p.0 (low p.0 y.0 z.0 e₀) in
        let y-low = le→leb y.1 p.1 (low p.1 y.1 z.1 e₁) in
        let inside = all_In (λ b. mem A (spot p y b)) Y (λ b k. stays p y z b e₀ e₁ r.3 k) in
        let low = (T_and (leb y.0 p.0) (leb y.1 p.1)).1 (x-low, y-low) in
        (In-any (cover A Y p) Y).1 (y, r.2, (T_and (leb y.0 p.0 && leb y.1 p.1) (all (λ b. mem A (spot p y b)) Y)).1 (low, inside))

-- sums of cells, regrouped
sums_assoc : (A B C : List Cell) → Same (cell_sums A (cell_sums B C)) (cell_sums (cell_sums A B) C)
sums_assoc A B C c = (
  λ h. let r = (In-sums A (cell_sums B C) c).0 h in let s = (In-sums B C r.1).0 r.3 in
      (In-sums (cell_sums A B) C c).1 (
        add_cell r.0 s.0,
        s.1,
        (In-sums A B (add_cell r.0 s.0)).1 (r.0, s.0, r.2, s.2, refl),
        s.3,
        r.4 ∙ ap (add_cell r.0) s.4 ∙ assoc r.0 s.0 s.1,
      ),
  λ h. let r = (In-sums (cell_sums A B) C c).0 h in let s = (In-sums A B r.0).0 r.2 in
      (In-sums A (cell_sums B C) c).1 (
        s.0,
        add_cell s.1 r.1,
        s.2,
        (In-sums B C (add_cell s.1 r.1)).1 (s.1, r.1, s.3, r.3, refl),
        r.4 ∙ ap (λ x. add_cell x r.1) s.4 ∙ sym (assoc s.0 s.1 r.1),
      ),
)
  where
    law : (a b c : ℕ) → a + (b + c) ≡ a + b + c
    law a b c = omega arith

    assoc : (a b c : Cell) → add_cell a (add_cell b c) ≡ add_cell (add_cell a b) c
    assoc a b c = pair (law a.0 b.0 c.0) (law a.1 b.1 c.1)

-- with no stage left to add, Y is the sum
sums_nil : (Y : List Cell) → Same (cell_sums Y (sum_cells [])) Y
unfolding sum_cells
sums_nil Y c = (
  λ h. let r = (In-sums Y ((0, 0) ∷ []) c).0 h in subst (In Y) (sym (r.4 ∙ gone r.0 r.1 r.3)) r.2,
  λ h. (In-sums Y ((0, 0) ∷ []) c).1 (c, (0, 0), h, inl refl, pair (zero_r c.0) (zero_r c.1)),
)
  where
    zero_r : (x : ℕ) → x ≡ x + 0
    zero_r x = omega arith

    gone : (a b : Cell) → (b ≡ (0, 0)) ⊎ ⊥ → add_cell a b ≡ a
    gone a b (inl q) = ap (add_cell a) q ∙ pair (sym (zero_r a.0)) (sym (zero_r a.1))
    gone a b (inr f) = absurd f

-- the first stage goes into the partial sum
sums_cons : (Y : List Cell) (k : ℕ) (ks : List ℕ) → Same (cell_sums Y (sum_cells (k ∷ ks))) (cell_sums (cell_sums Y (mask_cells k)) (sum_cells ks))
unfolding sum_cells
sums_cons Y k ks = sums_assoc Y (mask_cells k) (sum_cells ks)

same_trans : {X Y Z : Cell → Type 0} → ((c : Cell) → X c ↔ Y c) → ((c : Cell) → Y c ↔ Z c) → (c : Cell) → X c ↔ Z c
same_trans e f p = (λ h. (f p).0 ((e p).0 h), λ h. (e p).1 ((f p).1 h))

-- ---- the search: n more stages, none below last, after the partial sum Y

abbrev pub found : ℕ → Option (List ℕ) → Option (List ℕ) → Option (List ℕ)
found m (some ms) r = some (m ∷ ms)
found m none r = r

module _ (A : List Cell) where
  unfoldable pub try : (ℕ → List Cell → Option (List ℕ)) → ℕ → ℕ → List Cell → Option (List ℕ)
  unfolding cell_sums fits stage mask_cells
  try rec zero m Y = none
  try rec (suc f) m Y =
      let r = try rec f (suc m) Y in
      let q = found m (rec m (cell_sums Y (mask_cells m))) r in
      cond (stage m && fits A (cell_sums Y (mask_cells m))) q r

  unfoldable pub search' : ℕ → ℕ → List Cell → Option (List ℕ)
  unfolding try same
  search' zero last Y = cond (same A Y) (some []) none
  search' (suc n) last Y = try (search' n) (512 - last) last Y

  -- a list found that is not above ns
  abbrev pub Found : List ℕ → Option (List ℕ) → Type 0
  Found ns o = (ms : List ℕ) × (o ≡ some ms) × T (not_above ms ns)

  -- a stage k that fits is reached, unless a list was found before
  tries : (rec : ℕ → List Cell → Option (List ℕ)) (f m k : ℕ) (ks : List ℕ) (Y : List Cell) → m + f ≡ 512 → m ≤ k → T (stage k)
      → T (fits A (cell_sums Y (mask_cells k))) → Found ks (rec k (cell_sums Y (mask_cells k))) → Found (k ∷ ks) (try rec f m Y)
  unfolding try
  tries rec zero m k ks Y e h s t g = absurd (let l = stage_below k s in none_left m k e h l)
    where
      none_left : (m k : ℕ) → m + 0 ≡ 512 → m ≤ k → k < 512 → ⊥
      none_left m k e h l = omega arith
  tries rec (suc f) m k ks Y e h s t g = go (ℕ_discrete m k) (λ l. tries rec f (suc m) k ks Y (omega arith) l s t g)
    where
      next : ℕ → List Cell
      next j = cell_sums Y (mask_cells j)

      fit : ℕ → Bool
      fit j = stage j && fits A (next j)

      later : Option (List ℕ)
      later = try rec f (suc m) Y

      -- the answer with j tried first
      first : ℕ → Option (List ℕ)
      first j = found j (rec j (next j)) later

      -- at k, the list that rec finds
      here : m ≡ k → Found (k ∷ ks) (cond (fit m) (first m) later)
      here q =
          let least = (T_or (ltb k k) (eqb k k && not_above g.0 ks)).1 (inr ((T_and (eqb k k) (not_above g.0 ks)).1 (eqb_refl k, g.2))) in
          subst (λ j. Found (k ∷ ks) (cond (fit j) (first j) later)) (sym q)
          (cond_ind (fit k) (first k) later (Found (k ∷ ks))
          (λ _. (k ∷ g.0, ap (λ o. found k o later) g.1, least))
          (λ n. absurd (clash (fit k) n ((T_and (stage k) (fits A (next k))).1 (s, t)))))

      -- before k, whatever is found is smaller
      earlier : m < k → Found (k ∷ ks) later → (o : Option (List ℕ)) → Found (k ∷ ks) (found m o later)
      earlier l rest none = rest
      earlier l rest (some ms) = (m ∷ ms, refl, (T_or (ltb m k) (eqb m k && not_above ms ks)).1 (inl (lt→ltb m k l)))

      go : Dec (m ≡ k) → (suc m ≤ k → Found (k ∷ ks) later) → Found (k ∷ ks) (cond (fit m) (first m) later)
      go (yes q) rest = here q
      go (no q) rest =
          let l : suc m ≤ k = omega arith in
          cond_ind (fit m) (first m) later (Found (k ∷ ks)) (λ _. earlier l (rest l) (rec m (next m))) (λ _. rest l)

  -- whatever sums to A with Y, the search finds a list not above it
  pub finds : (n last : ℕ) (Y : List Cell) (ns : List ℕ) → last ≤ 512 → length ns ≡ n → T (all stage ns) → T (not (falling (last ∷ ns)))
      → Same A (cell_sums Y (sum_cells ns)) → Found ns (search' n last Y)
  unfolding search'
  finds zero last Y [] b e t u s =
      cond_ind (same A Y) (some []) none (Found []) (λ _. ([], refl, tt)) (λ n. absurd (clash (same A Y) n ((same_is A Y).1 (same_trans s (sums_nil Y)))))
  finds zero last Y (k ∷ ks) b e t u s = absurd (let z : suc (length ks) ≡ 0 = e in omega arith)
  finds (suc n) last Y [] b e t u s = absurd (let z : 0 ≡ suc n = e in omega arith)
  finds (suc n) last Y (k ∷ ks) b e t u s =
      let v = (T_and (stage k) (all stage ks)).0 t in
      let w = (not_or (ltb k last) (falling (k ∷ ks))).0 u in
      let s' = same_trans s (sums_cons Y k ks) in
      let l = stage_below k v.0 in
      let Z = cell_sums Y (mask_cells k) in
      tries (search' n) (512 - last) last k ks Y (omega arith) (nltb→le k last w.0) v.0 (fits_sum A Z (sum_cells ks) s')
      (finds n k Z ks (omega arith) (let z : suc (length ks) ≡ suc n = e in omega arith) v.1 w.1 s')

  -- with no stage used yet
  unfoldable pub search : ℕ → Option (List ℕ)
  unfolding search'
  search n = search' n 0 ((0, 0) ∷ [])

  -- the first partial sum adds nothing
  start : (ns : List ℕ) → Same (sum_cells ns) (cell_sums ((0, 0) ∷ []) (sum_cells ns))
  start ns c = (
    λ h. (In-sums ((0, 0) ∷ []) (sum_cells ns) c).1 ((0, 0), c, inl refl, h, pair (zero_l c.0) (zero_l c.1)),
    λ h. let r = (In-sums ((0, 0) ∷ []) (sum_cells ns) c).0 h in subst (In (sum_cells ns)) (sym (r.4 ∙ gone r.0 r.1 r.2)) r.3,
  )
    where
      zero_l : (x : ℕ) → x ≡ 0 + x
      zero_l x = omega arith

      gone : (a b : Cell) → (a ≡ (0, 0)) ⊎ ⊥ → add_cell a b ≡ b
      gone a b (inl q) = ap (λ x. add_cell x b) q ∙ pair (sym (zero_l b.0)) (sym (zero_l b.1))
      gone a b (inr f) = absurd f

  -- no stage is below 0
  falling_zero : (ns : List ℕ) → T (not (falling ns)) → T (not (falling (0 ∷ ns)))
  falling_zero [] t = tt
  falling_zero (k ∷ ks) t = (not_or (ltb k 0) (falling (k ∷ ks))).1 (not_T (ltb k 0) (λ z. let q = ltb→lt k 0 z in omega arith), t)

  pub searched : (ns : List ℕ) → T (all stage ns) → T (not (falling ns)) → Same A (sum_cells ns) → Found ns (search (length ns))
  unfolding search
  searched ns t u s = finds (length ns) 0 ((0, 0) ∷ []) ns (omega arith) refl t (falling_zero ns u) (same_trans s (start ns))
