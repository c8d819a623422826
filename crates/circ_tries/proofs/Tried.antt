-- Rules that are tried one after the other, and the conditions of one.
use Rattle.std.proofs.Common.{◌≡◌, ℕ, ◌+◌, ◌-◌, ◌≤◌, ◌<◌, ◌==◌, zero, suc, Bool, true, false, List, [], ◌∷◌, ◌++◌, drop, length, map, Option, Some, None, is_some, Ok, refl, ap, sym, subst, ◌∙◌, arith}
use Rattle.std.specs.List.{slice_get, AllByRecursion}
use Rattle.std.specs.Option.{option_or}
use Rattle.std.proofs.lemmas.Bool.{eqb-true}
use Rattle.std.proofs.lemmas.Option.{same_Some}
use Rattle.circ_term.specs.Tree.{Tree, Var, App, operator_number}
use Rattle.circ_term.specs.Substitution.{Substitution, instance}
use Rattle.circ_term.specs.Subst.{substitution_of}
use Rattle.circ_theory.specs.Signature.{Signature}
use Rattle.circ_theory.specs.Theory.{Pair}
use Rattle.circ_rewrite.specs.Due.{assumed, content_due, rule_due, ruled, rule_variables, terms_by, due_under, IsRewriteRule}
use Rattle.circ_rewrite.specs.Matching.{matching, matches}
use Rattle.circ_rewrite.specs.Plain.{plain_passes}
use Rattle.circ_rewrite.specs.Replacement.{By_rule, Passes, no_pass, Replacement}
use Rattle.circ_rewrite.specs.declared.parts.Pass.{Pass}
use Rattle.circ_rewrite.specs.declared.parts.Rule.{Rule}
use Rattle.circ_rewrite.proofs.MatchingFacts.{matcher_agrees, matches-instance}
use Rattle.circ_due.specs.Bounds.{bounds_in}
use Rattle.circ_due.specs.Chosen.{IsFit, IsChoice, by_rule}
use Rattle.circ_due.specs.Finding.{NoneFits}
use Rattle.circ_due.proofs.Found.{none_ruled}
use Rattle.circ_due.specs.declared.choice.Bound.{Bound}
use Rattle.circ_due.specs.declared.choice.Choice.{Choice}
use Rattle.circ_due.specs.declared.choice.Choice.TheVariants.{Assumed, Content, Ruled}
use Rattle.circ_due.specs.declared.means.Means.{Means}
use Rattle.circ_tries.specs.declared.parts.Found.{Found}
use Rattle.circ_conditional_norm.specs.Norm.{inner_norm, try_limit}
use Rattle.circ_conditional_norm.specs.Tries.{Normaliser, before_rules, condition_holds, conditions_hold, due_trying, rule_replaces, rule_tried, rules_tried, tried}
use Rattle.circ_conditional_norm.specs.Work.{Work, Made, Out, Past, map_found, or_next}
use Rattle.circ_tries.specs.Trying.{conditions_by, norm_by, due_in, pass_before, passes_before, passing, with_passes, FindsDue}

-- ---- how conditions are normalised

pub tries_left : (m : Means) (tries : ℕ) → tries < 8 → conditions_by m tries ≡ Some (norm_by m (tries + 1))
tries_left m tries h =
    let z : 8 - tries ≡ suc (8 - (tries + 1)) = omega (arith, h) in
    ap (λ n. inner_norm n m.theory.now.signature m.rules.items m.assumptions) z

pub no_tries_left : (m : Means) (tries : ℕ) → tries ≡ 8 → conditions_by m tries ≡ None
no_tries_left m tries h = ap (λ n. inner_norm (try_limit - n) m.theory.now.signature m.rules.items m.assumptions) h

-- ---- one try

module _ (o : Option Normaliser) (σ : Substitution) where
  pub tried_plain : (ps : List Pair) (k : ℕ) → length ps ≡ 0 → tried o σ ps k ≡ Made (Some no_pass) k
  tried_plain [] k h = refl
  tried_plain (p ∷ ps) k h = absurd (omega (arith, h))

  pub tried_not : (ps : List Pair) (k : ℕ) → (length ps ≡ 0 → ⊥) → o ≡ None → tried o σ ps k ≡ Made None k
  tried_not [] k h e = absurd (h refl)
  tried_not (p ∷ ps) k h e = ap (λ x. tried x σ (p ∷ ps) k) e

  pub tried_out : (f : Normaliser) (ps : List Pair) (k : ℕ) → (length ps ≡ 0 → ⊥) → o ≡ Some f → k ≡ 0 → tried o σ ps k ≡ Out
  tried_out f [] k h e z = absurd (h refl)
  tried_out f (p ∷ ps) k h e z = ap (λ x. tried x σ (p ∷ ps) k) e ∙ ap (tried (Some f) σ (p ∷ ps)) z

  pub tried_some : (f : Normaliser) (ps : List Pair) (k : ℕ) → (length ps ≡ 0 → ⊥) → o ≡ Some f → 0 < k → tried o σ ps k ≡ conditions_hold f σ ps (k - 1)
  tried_some f [] k h e z = absurd (h refl)
  tried_some f (p ∷ ps) zero h e z = absurd (omega (arith, z))
  tried_some f (p ∷ ps) (suc k) h e z =
      let y : k ≡ suc k - 1 = omega arith in
      ap (λ x. tried x σ (p ∷ ps) (suc k)) e ∙ ap (conditions_hold f σ (p ∷ ps)) y

-- a list that is not empty
pub some_conditions : {X Y : Type 0} (f : X → Y) (xs : List X) (ys : List Y) (b : Bool) → map f xs ≡ ys → b ≡ (length xs == zero) → b ≡ false → length ys ≡ 0 → ⊥
some_conditions f [] ys b e g h z = absurd (let never : true ≡ false = sym g ∙ h in cc)
some_conditions f (x ∷ xs) ys b e g h z = let n : suc (length (map f xs)) ≡ length ys = ap length e in absurd (omega (arith, n, z))

-- ---- conditions, one after the other

pub map_map : {A B C : Type 0} (g : B → C) (h : A → B) (w : Work (Option A)) → map_found g (map_found h w) ≡ map_found (λ a. g (h a)) w
map_map g h (Made (Some a) k) = refl
map_map g h (Made None k) = refl
map_map g h Out = refl
map_map g h (Past l k) = refl

pub passes_are : (ps : List Pass) → passes_before ps no_pass ≡ plain_passes ps
passes_are [] = refl
passes_are (p ∷ ps) = ap (pass_before p) (passes_are ps)

pub passes_push : (ps : List Pass) (p : Pass) (rest : Passes) → passes_before (ps ++ p ∷ []) rest ≡ passes_before ps (pass_before p rest)
passes_push [] p rest = refl
passes_push (q ∷ ps) p rest = ap (pass_before q) (passes_push ps p rest)

-- ---- a rule whose left side matches

-- matching gives what the matcher gives
pub same_substitution : (nodes : List Tree) (r : Rule) (t : Tree) (given : List Bound) → IsFit nodes r t given → matching r.left t ≡ substitution_of (bounds_in nodes given)
same_substitution nodes r t given fit = λ i n s. sym (matcher_agrees r.left t (bounds_in nodes given) fit.matches n s) i

pub fit_matches : (nodes : List Tree) (r : Rule) (t : Tree) (given : List Bound) → IsFit nodes r t given → matches r.left t ≡ true
fit_matches nodes r t given fit = matches-instance (substitution_of (bounds_in nodes given)) fit.matches.sorts r.left t fit.matches.makes

pub replaces_by : (nodes : List Tree) (r : Rule) (t : Tree) (given : List Bound) → IsFit nodes r t given → (ps : Passes) → rule_replaces r t ps ≡ passing ps (by_rule nodes r given)
replaces_by nodes r t given fit ps =
    ap (λ σ. record { reason = By_rule r.name (terms_by σ (rule_variables r)) ps; new = instance σ r.right }) (same_substitution nodes r t given fit)

pub rule_fits : (o : Option Normaliser) (nodes : List Tree) (r : Rule) (t : Tree) (given : List Bound) (k : ℕ) → IsFit nodes r t given
    → rule_tried o r k t ≡ map_found (rule_replaces r t) (tried o (substitution_of (bounds_in nodes given)) r.conds k)
rule_fits o nodes r t given k fit =
    rw (fit_matches nodes r t given fit) (ap (λ σ. map_found (rule_replaces r t) (tried o σ r.conds k)) (same_substitution nodes r t given fit))

-- ---- rules, one after the other

module _ (o : Option Normaliser) (t : Tree) where
  -- a rule that does not match is passed over
  pub not_tried : (r : Rule) (k : ℕ) → matches r.left t ≡ false → rule_tried o r k t ≡ Made None k
  not_tried r k e = rw e refl

  next_none : (rs : List Rule) (q : Rule) (from to : ℕ) → NoneFits (q ∷ rs) t (suc from) (suc to) → NoneFits rs t from to
  next_none rs q from to h = λ n rule a b g. h (suc n) rule (omega (arith, a)) (omega (arith, b)) g

  first_none : (rs : List Rule) (q : Rule) (to : ℕ) → NoneFits (q ∷ rs) t zero (suc to) → NoneFits rs t zero to
  first_none rs q to h = λ n rule a b g. h (suc n) rule (omega arith) (omega (arith, b)) g

  pub rules_next : (rs : List Rule) (from n : ℕ) (r : Rule) (k : ℕ) → from ≤ n → slice_get rs n ≡ Some r → NoneFits rs t from n
      → rules_tried o (drop from rs) k t ≡ or_next (rule_tried o r k t) (λ l. rules_tried o (drop (suc n) rs) l t)
  rules_next [] from n r k a g h = absurd (cc)
  rules_next (q ∷ rs) zero zero r k a g h = ap (λ x. or_next (rule_tried o x k t) (λ l. rules_tried o rs l t)) (same_Some q r g)
  rules_next (q ∷ rs) zero (suc n) r k a g h =
      ap (λ w. or_next w (λ l. rules_tried o rs l t)) (not_tried q k (h zero q (omega arith) (omega arith) refl))
      ∙ rules_next rs zero n r k (omega arith) g (first_none rs q n h)
  rules_next (q ∷ rs) (suc from) zero r k a g h = absurd (omega (arith, a))
  rules_next (q ∷ rs) (suc from) (suc n) r k a g h = rules_next rs from n r k (omega (arith, a)) g (next_none rs q from n h)

  pub rules_none : (rs : List Rule) (from k : ℕ) → NoneFits rs t from (length rs) → rules_tried o (drop from rs) k t ≡ Made None k
  rules_none [] zero k h = refl
  rules_none [] (suc from) k h = refl
  rules_none (q ∷ rs) zero k h =
      ap (λ w. or_next w (λ l. rules_tried o rs l t)) (not_tried q k (h zero q (omega arith) (omega arith) refl)) ∙ rules_none rs zero k (first_none rs q (length rs) h)
  rules_none (q ∷ rs) (suc from) k h = rules_none rs from k (next_none rs q from (length rs) h)

-- ---- what is due at the root

or_none : (x : Option Replacement) → option_or x None ≡ x
or_none (Some r) = refl
or_none None = refl

pub due_before : (o : Option Normaliser) (sig : Signature) (rs : List Rule) (A : List Pair) (k : ℕ) (t : Tree) (r : Replacement) → before_rules sig A t ≡ Some r
    → due_trying o sig rs A k t ≡ Made (Some r) k
due_before o sig rs A k (Var n s) r e = ap (λ x. Made x k) (sym (or_none (assumed 0 A (Var n s))) ∙ e)
due_before o sig rs A k (App f s ts) r e = rw e refl

no_variable : (l : Tree) (n s : ℕ) → is_some (operator_number l) ≡ true → matches l (Var n s) ≡ false
no_variable (Var m j) n s e = absurd (cc)
no_variable (App f j ts) n s e = refl

variable_none : (o : Option Normaliser) (rs : List Rule) (k n s : ℕ) → AllByRecursion IsRewriteRule rs → rules_tried o rs k (Var n s) ≡ Made None k
variable_none o [] k n s h = refl
variable_none o (r ∷ rs) k n s h =
    ap (λ w. or_next w (λ l. rules_tried o rs l (Var n s))) (not_tried o (Var n s) r k (no_variable r.left n s h.0.application)) ∙ variable_none o rs k n s h.1

pub due_behind : (o : Option Normaliser) (sig : Signature) (rs : List Rule) (A : List Pair) (k : ℕ) (t : Tree) → AllByRecursion IsRewriteRule rs → before_rules sig A t ≡ None
    → due_trying o sig rs A k t ≡ rules_tried o rs k t
due_behind o sig rs A k (Var n s) ok e = ap (λ x. Made x k) (sym (or_none (assumed 0 A (Var n s))) ∙ e) ∙ sym (variable_none o rs k n s ok)
due_behind o sig rs A k (App f s ts) ok e = rw e refl

-- ---- what no rule matches

nothing_first : (x y : Option Replacement) → option_or x y ≡ None → (x ≡ None) × (y ≡ None)
nothing_first None y e = (refl, e)
nothing_first (Some r) y e = absurd (cc)

rules_not : (o : Option Normaliser) (rs : List Rule) (k : ℕ) (t : Tree) → ruled rs t ≡ None → rules_tried o rs k t ≡ Made None k
rules_not o [] k t e = refl
rules_not o (r ∷ rs) k t e = go (matches r.left t) refl (nothing_first (rule_due r t) (ruled rs t) e) (λ h. rules_not o rs k t h)
  where
    go : (b : Bool) → matches r.left t ≡ b → (rule_due r t ≡ None) × (ruled rs t ≡ None) → (ruled rs t ≡ None → rules_tried o rs k t ≡ Made None k)
        → rules_tried o (r ∷ rs) k t ≡ Made None k
    go false m h ih = ap (λ w. or_next w (λ l. rules_tried o rs l t)) (not_tried o t r k m) ∙ ih h.1
    go true m h ih = absurd (let never = rw m at h.0 in cc)

pub nothing_due : (o : Option Normaliser) (sig : Signature) (rs : List Rule) (A : List Pair) (k : ℕ) (t : Tree) → due_under sig rs A t ≡ None → due_trying o sig rs A k t ≡ Made None k
nothing_due o sig rs A k (Var n s) e = ap (λ x. Made x k) e
nothing_due o sig rs A k (App f s ts) e =
    let p = nothing_first (assumed 0 A (App f s ts)) (option_or (content_due sig (App f s ts)) (ruled rs (App f s ts))) e in
    let q = nothing_first (content_due sig (App f s ts)) (ruled rs (App f s ts)) p.1 in
    rw (p.0, q.0) (rules_not o rs k (App f s ts) q.1)

pub still_due : (sig : Signature) (rs : List Rule) (A : List Pair) (t : Tree) → before_rules sig A t ≡ None → NoneFits rs t zero (length rs) → due_under sig rs A t ≡ None
still_due sig rs A (Var n s) e h = (nothing_first (assumed 0 A (Var n s)) None e).0
still_due sig rs A (App f s ts) e h =
    let p = nothing_first (assumed 0 A (App f s ts)) (content_due sig (App f s ts)) e in
    rw (p.0, p.1) (none_ruled (App f s ts) rs h)

-- the same where the rules were looked through from the first on
pub still_from : (sig : Signature) (rs : List Rule) (A : List Pair) (t : Tree) (from : ℕ) → before_rules sig A t ≡ None → NoneFits rs t from (length rs) → (from == zero) ≡ true
    → due_under sig rs A t ≡ None
still_from sig rs A t from e h z = still_due sig rs A t e (subst (λ k. NoneFits rs t k (length rs)) (eqb-true from zero z) h)

-- ---- what is found before rules

-- without conditions a replacement is as it stands
plain_found : (nodes : List Tree) (m : Means) (t : Tree) (c : Choice) (r : Replacement) (ps : Passes) → IsChoice nodes m t c r → ps ≡ no_pass → passing ps r ≡ r
plain_found nodes m t (Assumed number right) r ps h e =
    let same : with_passes ps r.reason ≡ r.reason = ap (with_passes ps) h.0 ∙ sym h.0 in λ i. record { reason = same i; new = r.new }
plain_found nodes m t (Content op) r ps h e = ap (passing ps) h ∙ sym h
plain_found nodes m t (Ruled number given) r ps h e = ap (λ q. passing q r) e ∙ ap (passing no_pass) h.3 ∙ sym h.3

pub found_first : (nodes : List Tree) (m : Means) (tries : ℕ) (t : Tree) (k : ℕ) (found : Found) (r : Replacement) → IsChoice nodes m t found.choice r
    → before_rules m.theory.now.signature m.assumptions t ≡ Some r → found.conds.items ≡ [] → FindsDue nodes m t k (due_in m tries k t) (Ok (Some found))
found_first nodes m tries t k found r h e none =
    let same = plain_found nodes m t found.choice r (plain_passes found.conds.items) h (ap plain_passes none) in (
      passing (plain_passes found.conds.items) r,
      (r, h, refl),
      due_before (conditions_by m tries) m.theory.now.signature m.rules.items m.assumptions k t r e ∙ ap (λ d. Made (Some d) k) (sym same),
    )

-- ---- a condition that holds, and the others

pub holds_on : (f : Normaliser) (σ : Substitution) (all : List Pair) (p : Pair) (rest : List Pair) (k0 k l : ℕ) (done : List Pass) (pass : Pass)
    → conditions_hold f σ all k0 ≡ map_found (passes_before done) (conditions_hold f σ (p ∷ rest) k)
    → ((later : ℕ → Work (Option Passes)) → condition_holds f σ p k later ≡ map_found (pass_before pass) (later l))
    → conditions_hold f σ all k0 ≡ map_found (passes_before (done ++ pass ∷ [])) (conditions_hold f σ rest l)
holds_on f σ all p rest k0 k l done pass e h =
    e ∙ ap (map_found (passes_before done)) (h (conditions_hold f σ rest)) ∙ map_map (passes_before done) (pass_before pass) (conditions_hold f σ rest l)
    ∙ ap (λ g. map_found g (conditions_hold f σ rest l)) (λ i ps. sym (passes_push done pass ps) i)

pub holds_not : (f : Normaliser) (σ : Substitution) (all : List Pair) (p : Pair) (rest : List Pair) (k0 k l : ℕ) (done : List Pass)
    → conditions_hold f σ all k0 ≡ map_found (passes_before done) (conditions_hold f σ (p ∷ rest) k)
    → ((later : ℕ → Work (Option Passes)) → condition_holds f σ p k later ≡ Made None l) → conditions_hold f σ all k0 ≡ Made None l
holds_not f σ all p rest k0 k l done e h = e ∙ ap (map_found (passes_before done)) (h (conditions_hold f σ rest))

pub holds_all : (f : Normaliser) (σ : Substitution) (all : List Pair) (k0 k : ℕ) (done : List Pass)
    → conditions_hold f σ all k0 ≡ map_found (passes_before done) (conditions_hold f σ [] k) → conditions_hold f σ all k0 ≡ Made (Some (plain_passes done)) k
holds_all f σ all k0 k done e = e ∙ ap (λ ps. Made (Some ps) k) (passes_are done)
