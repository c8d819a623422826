use Rattle.std.proofs.Common.{◌≡◌, Some, ap, sym, subst, ◌∙◌, refl, length, map}
use Rattle.std.proofs.lemmas.Option.{same_Some, slice_get_read}
use Rattle.std.specs.List.{slice_get}
use Rattle.circ_term.specs.Subst.{substitution_of}
use Rattle.circ_term.specs.Substitution.{instance}
use Rattle.circ_theory.specs.Pairs.{plain_pair}
use Rattle.circ_rewrite.specs.Plain.{plain_passes}
use Rattle.circ_rewrite.specs.declared.parts.Rule.{Rule}
use Rattle.circ_plain_search.specs.Joining.{rule_number}
use Rattle.circ_join.specs.Trying.{normaliser_of}
use Rattle.circ_join.proofs.FirstLemma.{lemma_terms, rule_rewrites}
use Rattle.circ_join.proofs.UsesMade.{lemma_hindered, no_lemma_due, lemma_due}
use Rattle.circ_join.proofs.passing.Passing.use_at.Goals as goal

pub returns-in-Err-clause-exact : goal.returns-in-Err-clause-exact
returns-in-Err-clause-exact c = λ r g.
    let L = c.args.self.now.lemmas.now in
    let q = c.index-rules-place.result in
    let there : slice_get L c.args.place ≡ Some q = slice_get_read L (length L) c.args.place q refl c.requires.there (rw c.rules.ensures.rules at c.index-rules-place.is) in
    let conds : map plain_pair c.as_slice.result.now ≡ r.conds = c.as_slice.ensures ∙ ap (λ (x : Rule). x.conds) (same_Some q r (sym there ∙ g)) in
    lemma_hindered (normaliser_of c.args.reducer.now) r c.args.path.now (substitution_of c.args.subst) c.args.budget.now c.in-Err.fault c.passes.new.budget
    (rw conds at c.in-Err.ensures.exact)

pub returns-in-Ok-None-clause-exact : goal.returns-in-Ok-None-clause-exact
returns-in-Ok-None-clause-exact c = λ r g.
    let L = c.args.self.now.lemmas.now in
    let q = c.index-rules-place.result in
    let there : slice_get L c.args.place ≡ Some q = slice_get_read L (length L) c.args.place q refl c.requires.there (rw c.rules.ensures.rules at c.index-rules-place.is) in
    let conds : map plain_pair c.as_slice.result.now ≡ r.conds = c.as_slice.ensures ∙ ap (λ (x : Rule). x.conds) (same_Some q r (sym there ∙ g)) in
    no_lemma_due (normaliser_of c.args.reducer.now) r c.args.path.now (substitution_of c.args.subst) c.args.budget.now c.passes.new.budget
    (rw (c.in-Ok-None.field-0-is, conds) at c.in-Ok-None.ensures.exact)

pub returns-clause-exact : goal.returns-clause-exact
returns-clause-exact c = λ r g.
    let L = c.args.self.now.lemmas.now in
    let q = c.index-rules-place.result in
    let there : slice_get L c.args.place ≡ Some q = slice_get_read L (length L) c.args.place q refl c.requires.there (rw c.rules.ensures.rules at c.index-rules-place.is) in
    let is : q ≡ r = same_Some q r (sym there ∙ g) in
    let conds : map plain_pair c.as_slice.result.now ≡ r.conds = c.as_slice.ensures ∙ ap (λ (x : Rule). x.conds) is in
    let rewrites = rule_rewrites L r c.args.place (rw c.rules.ensures.rules at c.rules.ensures.rewrite) g in
    lemma_due (normaliser_of c.args.reducer.now) r c.args.path.now (substitution_of c.args.subst) c.args.budget.now c.passes.new.budget
    (plain_passes c.in-Ok-Some.passes.items) (rw (c.in-Ok-Some.field-0-is, conds) at c.in-Ok-Some.ensures.exact)
    (c.rule_number.ensures ∙ ap (λ (x : Rule). rule_number x.name) is) c.in_ok-from_slice-in-Ok-Some.ensures.ok
    (c.in_ok-terms-in-Ok-Some.ensures.terms ∙ lemma_terms r c.args.subst rewrites (c.requires.binds r g) c.in_ok-terms-in-Ok-Some.ensures.ordered) c.in_ok-chains_of-in-Ok-Some.ensures
    (ap (λ (x : Rule). instance (substitution_of c.args.subst) x.right) is)
