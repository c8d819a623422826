-- What the functions that take one item answer.
use Rattle.std.proofs.Common.{◌≡◌, ◌≢◌, ℕ, ◌==◌, not, length, Bool, true, false, arith, List, [], ◌∷◌, ◌++◌, codes, Option, Some, None, Result, Ok}
use Rattle.std.proofs.Common.{Err, OnOk, IfErr, inl, inr, refl, sym, ap, ◌∙◌, subst}
use Rattle.std.specs.Option.{option_map}
use Rattle.std.proofs.Math.Bool.{beq}
use Rattle.std.proofs.lemmas.Bool.{eqb-true}
use Rattle.circ_term.specs.Tree.{Tree}
use Rattle.circ_lexer.specs.TokenList.{TokenList}
use Rattle.circ_theory.specs.Theory.{Theory}
use Rattle.circ_theory.specs.declared.fault.TheoryFault.{TheoryFault}
use Rattle.circ_theory.specs.Goal.{Goal}
use Rattle.circ_mixfix.specs.Answers.{long_count, first_long, GivesReading}
use Rattle.circ_mixfix.specs.declared.parse.ParseFault.{ParseFault}
use Rattle.circ_mixfix.specs.declared.parse.ParseFault.TheVariants as parse
use Rattle.circ_statement.specs.Words.{Word}
use Rattle.circ_statement.specs.Said as statement
use Rattle.circ_statement.specs.Said.{SaidSides}
use Rattle.circ_statement.specs.Statement.{IsLeftOut}
use Rattle.circ_read.specs.declared.cause.Cause.{Cause}
use Rattle.circ_read.specs.declared.cause.Cause.TheVariants as cause
use Rattle.circ_read.specs.declared.cause.Fault.{Fault}
use Rattle.circ_read.specs.declared.cause.Fault.TheVariants.{Because, Memory}
use Rattle.circ_read.specs.Adding.{AddsStatement, ReadsAlone, equation_lists, ReadsEquation}
use Rattle.circ_read.specs.Causes.{cause_of}
use Rattle.circ_read.specs.Outcomes.{goal_of_terms}
use Rattle.circ_read.specs.Refusing.{RefusesStatement, IsCauseOf, ReadsNotAlone, too_many_tokens, no_reading, two_readings}
use Rattle.circ_read.specs.Steps.{StepAnswers, SaidOutcome}
use Rattle.circ_read.proofs.GoalTerms.{goal_read as as_a_goal}
use Rattle.circ_read.proofs.Once.{SaidOnce}
use Rattle.circ_script.specs.declared.job.Job.{Job}
use Rattle.circ_script.specs.declared.adding.Asked.{Asked}
use Rattle.circ_script.specs.declared.items.FoundItem.{FoundItem}
use Rattle.circ_script.specs.Items.{variables, goal, reduce, IsItem, IsFor, item_words, begins_with}
use Rattle.circ_script.specs.Drafts.{Draft}
use Rattle.circ_script.specs.Adding.{ReadsTerm, goal_fault, AddsItem}
use Rattle.circ_script.specs.Refusing.{reading_text, TakesNoItem, left_out, no_shape, is_refused}
use Rattle.circ_script.specs.Steps.{item_of, GivesItem, IsNoItem, out, no_item, IsUnread, unless_fault, goal_added, terms_added, draft_of, ItemOutcome, TakingOutcome}
use Rattle.circ_script.proofs.ItemWords.{item_once}

module _ (too_long : Option ℕ) (Reads : List Tree → Type 0) (th : Theory) where
  -- why nothing was read
  pub not_read : (fault : ParseFault) (c : Cause) → GivesReading (Err fault) too_long Reads → IsUnread (Because c) th fault
      → ReadsNotAlone too_long Reads (reading_text th) c
  not_read (parse.TooLong n) c g e = subst (ReadsNotAlone too_long Reads (reading_text th)) (sym e) (too_many_tokens n g)
  not_read parse.NoParse c g e = subst (ReadsNotAlone too_long Reads (reading_text th)) (sym e) (no_reading g.0 g.1)
  not_read (parse.Ambiguous a b) c g e = subst (ReadsNotAlone too_long Reads (reading_text th)) (sym e)
      (two_readings a.terms.items b.terms.items g.0 g.1 g.2 g.3)
  not_read parse.Memory c g e = absurd e

  pub read_alone : (ts : List Tree) → (too_long ≡ None) × Reads ts × ((us : List Tree) → Reads us → us ≡ ts) → ReadsAlone too_long Reads ts
  read_alone ts g = record { short = g.0; reads = g.1; only = g.2 }

module _ (d : Draft) where
  pub goal_unread : (s : SaidSides) (conds : List SaidSides) (fault : ParseFault) (f : Fault) (e : Draft)
      → GivesReading (Err fault) (first_long (equation_lists s.left s.right conds)) (ReadsEquation d.theory (equation_lists s.left s.right conds))
      → IsUnread f d.theory fault → StepAnswers {U = Unit {0}} (Err f) e (ItemOutcome d (goal s conds))
  goal_unread s conds fault (Because c) e g u =
      let lists = equation_lists s.left s.right conds in
      inl (not_read (first_long lists) (ReadsEquation d.theory lists) d.theory fault c g u)
  goal_unread s conds fault Memory e g u = tt

  pub term_unread : (term : List Word) (fault : ParseFault) (f : Fault) (e : Draft) → GivesReading (Err fault) (long_count term) (ReadsTerm d.theory term)
      → IsUnread f d.theory fault
      → StepAnswers {U = Unit {0}} (Err f) e (ItemOutcome d (reduce term))
  term_unread term fault (Because c) e g u = not_read (long_count term) (ReadsTerm d.theory term) d.theory fault c g u
  term_unread term fault Memory e g u = tt

  -- what a statement that declares variables comes to, as an item
  pub declared_as : (names : List Word) (sort : Word) (r : Result (Unit {0}) Fault) (u : Theory) (e : Draft) → e ≡ record d { theory = u }
      → StepAnswers r u (SaidOutcome AddsStatement RefusesStatement d.theory (statement.variables names sort)) → StepAnswers r e
      (ItemOutcome d (variables names sort))
  declared_as names sort (Ok n) u e s h = subst (λ x. AddsItem d (variables names sort) x) (sym s) (h, refl)
  declared_as names sort (Err (Because c)) u e s h = h
  declared_as names sort (Err Memory) u e s h = tt

-- goals with one more, or why not
one_ok : (o : Option TheoryFault) (gs hs : List Goal) → Ok hs ≡ unless_fault o gs → (o ≡ None) × (hs ≡ gs)
one_ok None gs hs e = (refl, cc)
one_ok (Some f) gs hs e = absurd (cc)

one_err : (o : Option TheoryFault) (gs : List Goal) (c : Cause) → Err c ≡ unless_fault o gs → IsCauseOf o c
one_err None gs c e = absurd (cc)
one_err (Some f) gs c e = let s : c ≡ cause_of f = cc in s

pub fault_told : (th : Theory) (gs : List Goal) (ts : List Tree) (g : Goal) (c : Cause) → goal_of_terms ts ≡ Some g
    → Some c ≡ option_map cause_of (goal_fault th g.conds) → Err c ≡ terms_added th gs ts
fault_told th gs ts g c is e = go (goal_fault th g.conds) e ∙ sym (ap (goal_added th gs) is)
  where
    go : (o : Option TheoryFault) → Some c ≡ option_map cause_of o → Err c ≡ unless_fault o (gs ++ g ∷ [])
    go None e = absurd (cc)
    go (Some f) e = let s : c ≡ cause_of f = cc in ap Err s

module _ (th : Theory) (a b : Asked) where
  module _ (s : SaidSides) (conds : List SaidSides) (ts : List Tree) where
    abbrev lists : List (List Word)
    lists = equation_lists s.left s.right conds

    -- what was read is a goal more, or its conditions have a fault
    pub goal_read : (r : Result (Unit {0}) Fault)
        → (first_long lists ≡ None) × ReadsEquation th lists ts × ((us : List Tree) → ReadsEquation th lists us → us ≡ ts)
        → draft_of th b ≡ record (draft_of th a) { goals = b.goals.items }
        → StepAnswers r b.goals.items (λ q. q ≡ terms_added th a.goals.items ts) → StepAnswers r (draft_of th b) (ItemOutcome (draft_of th a) (goal s conds))
    goal_read (Ok n) h same e =
        let g = as_a_goal th s.left s.right conds ts h.1 in
        let p = one_ok (goal_fault th g.0.conds) _ b.goals.items (e ∙ ap (goal_added th a.goals.items) g.2) in
        record {
          says = g.0;
          alone = subst (ReadsAlone (first_long lists) (ReadsEquation th lists)) g.1 (read_alone (first_long lists) (ReadsEquation th lists) th ts h);
          no_fault = p.0;
          is = same ∙ ap (λ gs. record (draft_of th a) { goals = gs }) p.1;
        }
    goal_read (Err (Because c)) h same e =
        let g = as_a_goal th s.left s.right conds ts h.1 in
        inr (
          g.0,
          (
            subst (ReadsAlone (first_long lists) (ReadsEquation th lists)) g.1 (read_alone (first_long lists) (ReadsEquation th lists) th ts h),
            one_err (goal_fault th g.0.conds) _ c (e ∙ ap (goal_added th a.goals.items) g.2),
          ),
        )
    goal_read (Err Memory) h same e = tt

  -- a term more
  pub term_read : (term : List Word) (ts : List Tree) (t : Tree) (r : Result (Unit {0}) Fault) → ts ≡ t ∷ []
      → (long_count term ≡ None) × ReadsTerm th term ts × ((us : List Tree) → ReadsTerm th term us → us ≡ ts)
      → draft_of th b ≡ record (draft_of th a) { terms = b.terms.items }
      → OnOk r ((u : Tree) → ts ≡ u ∷ [] → b.terms.items ≡ a.terms.items ++ u ∷ [])
      → IfErr r (λ f. f ≡ Memory) → StepAnswers r (draft_of th b) (ItemOutcome (draft_of th a) (reduce term))
  term_read term ts t (Ok n) e g same pushed fault = record {
    term = t;
    alone = subst (ReadsAlone (long_count term) (ReadsTerm th term)) e (read_alone (long_count term) (ReadsTerm th term) th ts g);
    is = same ∙ ap (λ us. record (draft_of th a) { terms = us }) (pushed t e);
  }
  term_read term ts t (Err (Because c)) e g same pushed fault = absurd (cc)
  term_read term ts t (Err Memory) e g same pushed fault = tt

module _ (job : Job) (d : Draft) (before after ws : List Word) (is : ws ≡ item_words before) (ts : TokenList) where
  kept_as : ((w : Word) → IsLeftOut ws w → ⊥) → (w : Word) → IsLeftOut (item_words before) w → ⊥
  kept_as h w k = h w (subst (λ x. IsLeftOut x w) (sym is) k)

  module _ (p : FoundItem) (h : GivesItem (Ok p) ts ws (IsItem ws)) where
    -- one parenthesis is missing
    pub unpaired : (begins_with (codes ")") after ≡ begins_with (codes "(") before → ⊥) → TakesNoItem job d before after cause.Shape
    unpaired apart = no_shape (kept_as h.2) (λ item it. apart it.paired)

    -- the job has no such item
    pub not_for : SaidOnce → (IsFor job (item_of ts p) → ⊥) → TakesNoItem job d before after cause.Shape
    not_for law none = no_shape (kept_as h.2) (λ item it.
        let e = item_once law (item_words before) item (item_of ts p) it.says (subst (λ x. IsItem x (item_of ts p)) is h.0) in
        none (subst (IsFor job) e it.is_for))

    -- it is taken
    pub taken : begins_with (codes ")") after ≡ begins_with (codes "(") before → IsFor job (item_of ts p) → (r : Result (Unit {0}) Fault) (e : Draft)
        → StepAnswers r e (ItemOutcome d (item_of ts p))
        → StepAnswers r e (TakingOutcome job d before after)
    taken paired f (Ok n) e a = record {
      item = item_of ts p;
      is = record { kept = kept_as h.2; says = subst (λ x. IsItem x (item_of ts p)) is h.0; is_for = f; paired = paired };
      adds = a;
    }
    taken paired f (Err (Because c)) e a =
        is_refused (item_of ts p) c (record { kept = kept_as h.2; says = subst (λ x. IsItem x (item_of ts p)) is h.0; is_for = f; paired = paired }) a
    taken paired f (Err Memory) e a = tt

  -- the words are no item
  pub not_taken : (f : Fault) (e : Draft) → GivesItem (Err f) ts ws (IsItem ws) → StepAnswers {U = Unit {0}} (Err f) e (TakingOutcome job d before after)
  not_taken (Because c) e h = go c h
    where
      go : (c : Cause) → IsNoItem ws (IsItem ws) c → TakesNoItem job d before after c
      go c (out w k) = left_out w (subst (λ x. IsLeftOut x w) is k)
      go c (no_item kept none) = no_shape (kept_as kept) (λ item it. none item (subst (λ x. IsItem x item) (sym is) it.says))
  not_taken Memory e h = tt

-- goals are open, or none is
pub some_open : (th : Theory) (a : Asked) → false ≡ (a.goals.len == 0) → (draft_of th a).goals ≢ []
some_open th a e = go a.goals.items a.goals.ok.0
  where
    go : (gs : List Goal) → a.goals.len ≡ length gs → gs ≢ []
    go [] l n = absurd (let t = rw l at e in cc)
    go (g ∷ gs) l n = cc

pub none_open : (th : Theory) (a : Asked) → true ≡ (a.goals.len == 0) → (draft_of th a).goals ≡ []
none_open th a e = go a.goals.items a.goals.ok.0
  where
    go : (gs : List Goal) → a.goals.len ≡ length gs → gs ≡ []
    go [] l = refl
    go (g ∷ gs) l = absurd (let z = eqb-true a.goals.len 0 (sym e) in omega (arith, z, l))

pub same_found : (a b : Bool) → not (beq a b) ≡ false → a ≡ b
same_found true true e = refl
same_found true false e = absurd (cc)
same_found false true e = absurd (cc)
same_found false false e = refl

pub other_found : (a b : Bool) → not (beq a b) ≡ true → a ≡ b → ⊥
other_found true true e f = cc e
other_found true false e f = cc f
other_found false true e f = cc f
other_found false false e f = cc e
