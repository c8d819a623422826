-- Lines, and goals that wait, one after another.
use Rattle.std.proofs.Common.{◌≡◌, ◌<◌, ◌+◌, ◌==◌, ℕ, Bool, true, false, List, [], ◌∷◌, ◌++◌, length, drop, if◌then◌else◌, ap, sym, ◌∙◌, append_assoc}
use Rattle.std.specs.Prelude.{codes, flat_map}
use Rattle.std.specs.List.{slice_get}
use Rattle.std.specs.Option.{option_map_or}
use Rattle.circ_theory.specs.Signature.{Signature}
use Rattle.circ_theory.specs.Theory.{Derivative}
use Rattle.circ_theory.specs.Goal.{Goal}
use Rattle.circ_proof.proofs.Derivatives.{StartsWith, derivative_at}
use Rattle.circ_trace.specs.Descents.{derived_row}
use Rattle.circ_trace.specs.TurnText.{hypothesis_text, shown_goal, hypothesis_lines}
use Rattle.circ_trace.specs.declared.descent.Descent.{Descent}
use Rattle.circ_trace.specs.declared.descent.Descent.TheVariants.{Derived}

-- one more hypothesis, of number m
pub one_line : (sig : Signature) (out new whole : List ℕ) (n m : ℕ) (g : Goal) (gs rest : List Goal) → gs ≡ g ∷ rest → m ≡ n + 1
    → new ≡ out ++ (hypothesis_text m ++ codes ": " ++ shown_goal sig g ++ codes "\n") → out ++ hypothesis_lines sig n gs ≡ whole
    → new ++ hypothesis_lines sig m rest ≡ whole
one_line sig out new whole n m g gs rest e k a h =
    ap (λ x. x ++ hypothesis_lines sig m rest) a
    ∙ append_assoc out (hypothesis_text m ++ codes ": " ++ shown_goal sig g ++ codes "\n") (hypothesis_lines sig m rest)
    ∙ ap (λ x. out ++ ((hypothesis_text x ++ codes ": " ++ shown_goal sig g ++ codes "\n") ++ hypothesis_lines sig x rest)) k
    ∙ ap (λ x. out ++ hypothesis_lines sig n x) (sym e) ∙ h

-- one more of those that are listed
pub one_more : {A : Type 0} (f : A → List ℕ) (out new whole : List ℕ) (x : A) (xs rest : List A) → xs ≡ x ∷ rest → new ≡ out ++ f x
    → out ++ flat_map f xs ≡ whole → new ++ flat_map f rest ≡ whole
one_more f out new whole x xs rest e a h =
    ap (λ y. y ++ flat_map f rest) a ∙ append_assoc out (f x) (flat_map f rest) ∙ ap (λ y. out ++ flat_map f y) (sym e) ∙ h

module _ (ds : List Derivative) (n s i : ℕ) (h : i < length ds) (ps whole : List Descent) (so : ps ++ derived_row n s i (drop i ds) ≡ whole) where
  next : (b : Bool) (d : Derivative) → StartsWith ds i d → option_map_or (λ x. x.hole == s) (slice_get ds i) false ≡ b
      → derived_row n s i (drop i ds)
      ≡ (if b then Derived n i ∷ derived_row n s (i + 1) (drop (i + 1) ds) else derived_row n s (i + 1) (drop (i + 1) ds))
  next b d w e =
      let t : (d.hole == s) ≡ b = sym (ap (λ o. option_map_or (λ x. x.hole == s) o false) w.there) ∙ e in
      ap (derived_row n s i) w.rest
      ∙ ap (λ c. if c then Derived n i ∷ derived_row n s (i + 1) (drop (i + 1) ds) else derived_row n s (i + 1) (drop (i + 1) ds)) t

  pub derivative_taken : option_map_or (λ x. x.hole == s) (slice_get ds i) false ≡ true → (ps ++ Derived n i ∷ []) ++ derived_row n s (i + 1) (drop (i + 1) ds) ≡ whole
  derivative_taken e =
      let d = derivative_at ds i h in
      append_assoc ps (Derived n i ∷ []) (derived_row n s (i + 1) (drop (i + 1) ds)) ∙ ap (λ x. ps ++ x) (sym (next true d.0 d.1 e)) ∙ so

  pub derivative_passed : option_map_or (λ x. x.hole == s) (slice_get ds i) false ≡ false → ps ++ derived_row n s (i + 1) (drop (i + 1) ds) ≡ whole
  derivative_passed e = let d = derivative_at ds i h in ap (λ x. ps ++ x) (sym (next false d.0 d.1 e)) ∙ so
