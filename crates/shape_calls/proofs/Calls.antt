-- From the lists that a call reads, through the new shape that a method makes of them, to the list that is written.
use mathlib.Core.Path.{◌≡◌, sym, ◌∙◌, ap, subst}
use mathlib.Core.Logic.{inl, inr, ⊎_elim}
use mathlib.Core.Bool.{true, not}
use mathlib.Core.List.{List, [], ◌∷◌, ◌++◌, map}
use Prim.Native.Nat.{ℕ}
use native.Mathlib.Omega.{arith}
use lib.Dec.{T}
use lib.ListN.{length, drop}
use Rattle.plane.specs.Lists.{In}
use Rattle.plane.specs.Point.{Point, ◌≐◌}
use Rattle.plane.proofs.Algebra.{≐_trans, ≐_sym, ⊕_cong}
use Rattle.plane.proofs.Member.{In-append}
use Rattle.plane.proofs.Tests.{T_dec, T_true, T_false}
use Rattle.words.specs.Ground.{Answer}
use Rattle.words.specs.Ground.{first_of, stated, refusal, result, both}
use Rattle.words.proofs.Refusals.{Clear, clear, both_clear, unclear}
use Rattle.masks.specs.Chain.{sums}
use Rattle.masks.proofs.Sum.{sums_is}
use Rattle.shapes.specs.Calls.{new_tests, short_output, ListWritten, ListAnswered}
use Rattle.shapes.specs.Shape.{out_of_range, shape_tests}
use Rattle.shapes.specs.Plan.{plan_tests}
use Rattle.shapes.proofs.Listed.{listed_same}
use Rattle.shapes.proofs.Range.{range_same}
use Rattle.elements.specs.declared.Shape.{Shape}
use Rattle.elements.specs.Standing.{points_of, Made}
use Rattle.shape_calls.specs.Steps.{Returned, writing_tests}
use Rattle.shape_calls.proofs.Reading.{map_same}

-- ---- the points of new shapes

pub map_points : (f : Point → Point) (A B : List Point) → In A ≐ In B → In (map f A) ≐ In (map f B)
map_points f A B e p = (map_same f A B (λ q. (e q).0) p, map_same f B A (λ q. (e q).1) p)

pub append_points : (A B C D : List Point) → In A ≐ In C → In B ≐ In D → In (A ++ B) ≐ In (C ++ D)
append_points A B C D e f p = (
  λ h. (In-append C D p).1 (⊎_elim (λ k. inl ((e p).0 k)) (λ k. inr ((f p).0 k)) ((In-append A B p).0 h)),
  λ h. (In-append A B p).1 (⊎_elim (λ k. inl ((e p).1 k)) (λ k. inr ((f p).1 k)) ((In-append C D p).0 h)),
)

pub sum_points : (A B C D : List Point) → In A ≐ In C → In B ≐ In D → In (sums A B) ≐ In (sums C D)
sum_points A B C D e f = ≐_trans (sums_is A B) (≐_trans (⊕_cong e f) (≐_sym (sums_is C D)))

-- ---- what is made is a shape, or none

module _ (Given : Type 0) (g : Given) (A : List Point) (m : Shape) (M : Made Given A m) where
  pub made_returned : Returned m
  made_returned = ⊎_elim (λ t. inr (M.far t)) (λ t. inl (M.made g t).0) (T_dec (out_of_range A))

  -- it fits where its points are in range
  fits_is : not m.fits ≡ out_of_range A
  fits_is = ⊎_elim
      (λ t. ap (λ s. not s.fits) (M.far t) ∙ sym (T_true (out_of_range A) t))
      (λ t. ap not (M.made g t).0.fits ∙ sym (T_false (out_of_range A) t))
      (T_dec (out_of_range A))

  -- the list of what was made is the list of the points B, which are A
  pub list_made : (B : List Point) (out : List ℕ) (r : Answer) (out' : List ℕ) → In A ≐ In B → ListAnswered (writing_tests m out) (points_of m) out r out'
      → ListAnswered (new_tests B out) B out r out'
  list_made B out r out' e a = record {
    refused = λ n. subst (λ k. (stated r ≡ refusal k) × (out' ≡ out)) tests (a.refused (λ z. n (sym tests ∙ z)));
    done = λ z. again (in_range_lem z) (a.done (tests ∙ z));
  }
    where
      range : not m.fits ≡ out_of_range B
      range = fits_is ∙ range_same A B e

      tests : first_of (writing_tests m out) ≡ first_of (new_tests B out)
      tests = ap (λ b. first_of ((8, b) ∷ (9, short_output 17 out) ∷ [])) range

      -- where no test holds, A is in range
      in_range_lem : first_of (new_tests B out) ≡ 0 → T (not (out_of_range A))
      in_range_lem z = ⊎_elim (λ t. absurd (omega (arith, eight t ∙ z))) (λ t. t) (T_dec (out_of_range A))
        where
          eight : T (out_of_range A) → ◌≡◌ {A = ℕ} 8 (first_of (new_tests B out))
          eight t = sym (ap (λ b. first_of ((8, b) ∷ (9, short_output 17 out) ∷ [])) (sym (range_same A B e) ∙ T_true (out_of_range A) t))

      again : T (not (out_of_range A)) → ListWritten (points_of m) out r out' → ListWritten B out r out'
      again t w =
          let l = listed_same (points_of m) B (≐_trans (M.made g t).1 e) in
          record { answer = w.answer ∙ ap (λ ws. result (length ws)) l; words = subst (λ ws. out' ≡ ws ++ drop (length ws) out) l w.words }

-- a plan's shape is in range already: ground 9 alone is left
pub list_stands : (s : Shape) (B : List Point) (out : List ℕ) (r : Answer) (out' : List ℕ) → s.fits ≡ true → In (points_of s) ≐ In B
    → ListAnswered (writing_tests s out) (points_of s) out r out' → ListAnswered ((9, short_output 17 out) ∷ []) B out r out'
list_stands s B out r out' f e a = record {
  refused = λ n. subst (λ k. (stated r ≡ refusal k) × (out' ≡ out)) tests (a.refused (λ z. n (sym tests ∙ z)));
  done = λ z. again (a.done (tests ∙ z));
}
  where
    tests : first_of (writing_tests s out) ≡ first_of ((9, short_output 17 out) ∷ [])
    tests = ap (λ b. first_of ((8, not b) ∷ (9, short_output 17 out) ∷ [])) f

    again : ListWritten (points_of s) out r out' → ListWritten B out r out'
    again w =
        let l = listed_same (points_of s) B e in
        record { answer = w.answer ∙ ap (λ ws. result (length ws)) l; words = subst (λ ws. out' ≡ ws ++ drop (length ws) out) l w.words }

-- ---- what no refusal says of the lists that were read

pub shape_clear : (ws : List ℕ) → first_of (shape_tests ws) ≡ 0 → Clear (shape_tests ws)
unfolding shape_tests
shape_clear ws e = clear (shape_tests ws) tt e

pub plan_clear : (ws : List ℕ) → first_of (plan_tests ws) ≡ 0 → Clear (plan_tests ws)
unfolding plan_tests
plan_clear ws e = clear (plan_tests ws) tt e

pub shapes_clear : (ws vs : List ℕ) → first_of (both (shape_tests ws) (shape_tests vs)) ≡ 0 → Clear (both (shape_tests ws) (shape_tests vs))
unfolding shape_tests
shapes_clear ws vs e = clear (both (shape_tests ws) (shape_tests vs)) tt e

pub each_accepted : (ws vs : List ℕ) → first_of (both (shape_tests ws) (shape_tests vs)) ≡ 0 → (first_of (shape_tests ws) ≡ 0) × (first_of (shape_tests vs) ≡ 0)
each_accepted ws vs e =
    let c = both_clear (shape_tests ws) (shape_tests vs) (shapes_clear ws vs e) in
    (unclear (shape_tests ws) c.0, unclear (shape_tests vs) c.1)
