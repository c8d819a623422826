-- Parts added one by one, and words looked up one by one.
use Rattle.std.proofs.Common.{◌≡◌, true, ℕ, List, [], ◌∷◌, ◌++◌, Option, Some, None, Result, Ok, Err, refl, ap, sym, ◌∙◌, subst, append_assoc, length, arith}
use Rattle.std.specs.Option.{option_map}
use Rattle.std.proofs.lemmas.List.{append-nil}
use Rattle.std.specs.declared.vec.IntoIter.{IntoIter}
use Rattle.std.specs.Vec.Iter.{into_iter_len, into_iter_items}
use Rattle.circ_term.specs.Tree.{Tree}
use Rattle.circ_theory.specs.Theory.{Theory}
use Rattle.circ_read.specs.declared.cause.Cause.{Cause}
use Rattle.circ_read.specs.declared.cause.Fault.{Fault}
use Rattle.circ_read.specs.declared.cause.Fault.TheVariants.{Because, Memory}
use Rattle.circ_mixfix.specs.Answers.{GivesReading}
use Rattle.circ_mixfix.specs.declared.parse.ParseFault.{ParseFault}
use Rattle.circ_mixfix.specs.declared.parse.ParseFault.TheVariants as parse
use Rattle.circ_read.specs.Adding.{all_numbers}
use Rattle.circ_read.specs.Refusing.{ReadsNotAlone, too_many_tokens, no_reading, two_readings, terms_text}
use Rattle.circ_read.specs.Outcomes.{followed_by, all_added, or_cause, TermsOutcome}
use Rattle.circ_read.specs.Steps.{StepAnswers, IsNoReading}

module _ {A : Type 0} (add : Theory → A → Result Theory Cause) (th : Theory) (a : A) (all rest : List A) (first : all ≡ a ∷ rest) (whole : Result Theory Cause) (so_far : all_added add th all ≡ whole) where
  -- one part more is added
  pub more_added : (u : Theory) → Ok u ≡ add th a → all_added add u rest ≡ whole
  more_added u e = ap (λ r. followed_by r (λ v. all_added add v rest)) e ∙ ap (all_added add th) (sym first) ∙ so_far

  -- one part has a cause
  pub stopped : (f : Fault) (u v : Theory) → StepAnswers {U = Unit {0}} (Err f) u (λ r. r ≡ add th a) → StepAnswers {U = Unit {0}} (Err f) v (λ r. r ≡ whole)
  stopped (Because c) u v e = ap (λ r. followed_by r (λ v. all_added add v rest)) e ∙ ap (all_added add th) (sym first) ∙ so_far
  stopped Memory u v e = tt

module _ (number : List ℕ → Option ℕ) (w : List ℕ) (ws rest : List (List ℕ)) (first : ws ≡ w ∷ rest) (before : List ℕ) (whole : Option (List ℕ))
    (so_far : option_map (λ ns. before ++ ns) (all_numbers number ws) ≡ whole) where
  -- one word more has a number
  pub one_more : (n : ℕ) → number w ≡ Some n → option_map (λ ns. (before ++ n ∷ []) ++ ns) (all_numbers number rest) ≡ whole
  one_more n e = go (all_numbers number rest) refl
    where
      go : (o : Option (List ℕ)) → all_numbers number rest ≡ o → option_map (λ ns. (before ++ n ∷ []) ++ ns) (all_numbers number rest) ≡ whole
      go None p = cc (ap (all_numbers number) first)
      go (Some ns) p = cc (ap (all_numbers number) first, append_assoc before (n ∷ []) ns)

  -- one word has none
  pub no_more : number w ≡ None → whole ≡ None
  no_more e = cc (ap (all_numbers number) first)

-- nothing was found yet
pub none_yet : (o : Option (List ℕ)) (before : List ℕ) → before ≡ [] → option_map (λ ns. before ++ ns) o ≡ o
none_yet None before e = refl
none_yet (Some ns) before e = ap (λ xs. Some (xs ++ ns)) e

-- no word is left
pub all_found : (number : List ℕ → Option ℕ) (ws : List (List ℕ)) (before : List ℕ) (whole : Option (List ℕ)) (c : Cause) → ws ≡ []
    → option_map (λ ns. before ++ ns) (all_numbers number ws) ≡ whole → or_cause whole c ≡ Ok before
all_found number ws before whole c none e = cc (ap (all_numbers number) none, append-nil before)

module _ (too_long : Option ℕ) (Reads : List Tree → Type 0) (th : Theory) (add : List Tree → Result Theory Cause) where
  -- what was read is added
  pub read_then_added : (ts : List Tree) (r : Result (Unit {0}) Fault) (u : Theory) → (too_long ≡ None) × Reads ts × ((us : List Tree) → Reads us → us ≡ ts) → StepAnswers r u (λ q. q ≡ add ts)
      → StepAnswers r u (λ q. (o : Result (List Tree) Cause) × TermsOutcome too_long Reads (terms_text th) o × (q ≡ followed_by o add))
  read_then_added ts (Ok n) u g e = (Ok ts, record { short = g.0; reads = g.1; only = g.2 }, e)
  read_then_added ts (Err (Because c)) u g e = (Ok ts, record { short = g.0; reads = g.1; only = g.2 }, e)
  read_then_added ts (Err Memory) u g e = tt

  -- nothing was read
  pub not_read : (fault : ParseFault) (f : Fault) (u : Theory) → GivesReading (Err fault) too_long Reads → IsNoReading true f th fault
      → StepAnswers {U = Unit {0}} (Err f) u (λ q. (o : Result (List Tree) Cause) × TermsOutcome too_long Reads (terms_text th) o × (q ≡ followed_by o add))
  not_read (parse.TooLong n) (Because c) u g e = (Err c, subst (ReadsNotAlone too_long Reads (terms_text th)) (sym e) (too_many_tokens n g), refl)
  not_read parse.NoParse (Because c) u g e = (Err c, subst (ReadsNotAlone too_long Reads (terms_text th)) (sym e) (no_reading g.0 g.1), refl)
  not_read (parse.Ambiguous a b) (Because c) u g e =
      (Err c, subst (ReadsNotAlone too_long Reads (terms_text th)) (sym e) (two_readings a.terms.items b.terms.items g.0 g.1 g.2 g.3), refl)
  not_read parse.Memory (Because c) u g e = absurd e
  not_read fault Memory u g e = tt

none_long : {X : Type 0} (xs : List X) → length xs ≡ 0 → xs ≡ []
none_long [] e = refl
none_long (x ∷ xs) e = absurd (omega arith)

-- nothing is left to come
pub none_to_come : {X Z : Type 0} (it : IntoIter X Z) → into_iter_len it ≡ 0 → into_iter_items it ≡ []
none_to_come it e = none_long it.rest.items (sym it.rest.ok.0 ∙ e)
