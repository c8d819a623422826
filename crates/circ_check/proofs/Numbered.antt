-- What has a number stays when terms are added, and what stays when a block ends.
use Rattle.std.proofs.Common.{◌≡◌, ◌≤◌, ◌<◌, ℕ, zero, suc, true, List, [], ◌∷◌, ◌++◌, map, take, drop, length}
use Rattle.std.proofs.Common.{refl, ap, sym, subst, ◌∙◌, arith}
use Rattle.std.specs.Prelude.{flat_map}
use Rattle.std.proofs.lemmas.List.{take-append-drop, take-append-le}
use Rattle.std.specs.List.{AllByRecursion}
use Rattle.circ_term.specs.Growing.{Grows}
use Rattle.circ_term.specs.Tree.{Tree}
use Rattle.circ_theory.specs.Theory.{Theory, goal_of}
use Rattle.circ_proof.specs.Plain.{LinkOf, ChainOf}
use Rattle.circ_proof.specs.Link.{AllOfLinks}
use Rattle.circ_proof.specs.Rules.{IsSortedState, ProofStep, Simplify, AllOfStep}
use Rattle.circ_proof.specs.Proof.{GoalNames, AreLinksFor, IsStepFor}
use Rattle.circ_proof.specs.Parts.{Part}
use Rattle.circ_soundness.proofs.Resolving.{steps_in_table}
use Rattle.circ_nodes.proofs.Building.{built_later}
use Rattle.circ_nodes.proofs.Numbers.{grows_length}
use Rattle.circ_shared.specs.Patterns.{goal_at, IsPattern}
use Rattle.circ_shared.specs.declared.patterns.Pattern.{Pattern}
use Rattle.circ_shared.proofs.Sharing.{goals_later, patterns_later}
use Rattle.circ_steps.specs.Derivatives.{AreDerivativesAt}
use Rattle.circ_steps.specs.Judging.{AreRules}
use Rattle.circ_steps.specs.declared.derivative.SharedDerivative.{SharedDerivative}
use Rattle.circ_steps.specs.declared.rules.Rules.{Rules}
use Rattle.circ_steps.specs.declared.states.SharedState.{SharedState}
use Rattle.circ_steps.specs.States.{state_at}
use Rattle.circ_steps.proofs.Numbering.{derivatives_later}
use Rattle.circ_steps.proofs.Staying.{state_later, state_there_later}
use Rattle.circ_entering.specs.declared.lines.NamedLines.{NamedLines}
use Rattle.circ_entering.specs.Lines.{line_numbers, lines_at, AreLinesAt, EntersLines}
use Rattle.circ_entering.specs.Naming.{sides_terms, name_terms, names_terms}
use Rattle.circ_entering.proofs.Renumbering.{stay_later, lines_later, lines_there, lines_length}
use Rattle.circ_check.specs.declared.checker.Checker.{Checker}
use Rattle.circ_check.specs.Checking.{Checking, TakesPart}
use Rattle.circ_check.specs.Naming.{IsNameWithin}
use Rattle.circ_check.specs.Ready.{IsPartReady}
use Rattle.circ_check.specs.Watching.{StaysIn, KnowsTheory, IsSound, Took, IsAsBefore, checking_of}

pub take_whole : {X : Type 0} (xs : List X) → take (length xs) xs ≡ xs
take_whole [] = refl
take_whole (x ∷ xs) = ap (λ ys. x ∷ ys) (take_whole xs)

pub map_taken : {X Y : Type 0} (f : X → Y) (n : ℕ) (xs : List X) → map f (take n xs) ≡ take n (map f xs)
map_taken f zero xs = refl
map_taken f (suc n) [] = refl
map_taken f (suc n) (x ∷ xs) = ap (λ ys. f x ∷ ys) (map_taken f n xs)

pub all_both : {X : Type 0} (P : X → Type 0) (xs ys : List X) → AllByRecursion P xs → AllByRecursion P ys → AllByRecursion P (xs ++ ys)
all_both P [] ys a b = b
all_both P (x ∷ xs) ys a b = (a.0, all_both P xs ys a.1 b)

-- the first terms go on to all
pub base_grows : (n : ℕ) (nodes : List Tree) → Grows (take n nodes) nodes
base_grows n nodes = (drop n nodes, sym (take-append-drop n nodes))

-- and they stay when others are added
pub base_stays : (n : ℕ) (old new : List Tree) → n ≤ length old → Grows old new → take n new ≡ take n old
base_stays n old new h g = ap (take n) g.1 ∙ take-append-le n old g.0 h

module _ (old new : List Tree) (g : Grows old new) where
  pub stays_later : (lines : NamedLines) (earlier own : List Pattern) → StaysIn old lines earlier own → StaysIn new lines earlier own
  stays_later lines earlier own s = record {
    lines_stay = stay_later old new lines g s.lines_stay;
    earlier = patterns_later old new g earlier s.earlier;
    own = patterns_later old new g own s.own;
  }

  pub knows_later : (th : Theory) (equations : List Pattern) (derivatives : List SharedDerivative) → KnowsTheory th old equations derivatives
      → KnowsTheory th new equations derivatives
  knows_later th equations derivatives k = record {
    equations = goals_later old new g equations k.patterns ∙ k.equations;
    patterns = patterns_later old new g equations k.patterns;
    derivatives = derivatives_later old new g th.derivatives derivatives k.derivatives;
  }

-- what is seen as nothing is nothing
pub none_seen : {X Y : Type 0} (f : X → Y) (xs : List X) → map f xs ≡ [] → xs ≡ []
none_seen f [] e = refl
none_seen f (x ∷ xs) e = absurd (cc)

-- the theory, whose equations and derivatives get numbers one after the other
pub knows_all : (th : Theory) (a b c : List Tree) (g : Grows a b) (k : Grows b c) (es : List Pattern) (ds : List SharedDerivative)
    → map (goal_at a) es ≡ map goal_of th.equations → AllByRecursion (IsPattern a) es → AreDerivativesAt b th.derivatives ds → KnowsTheory th c es ds
knows_all th a b c g k es ds e p d = record {
  equations = goals_later b c k es (patterns_later a b g es p) ∙ goals_later a b g es p ∙ e;
  patterns = patterns_later b c k es (patterns_later a b g es p);
  derivatives = derivatives_later b c k th.derivatives ds d;
}

-- ---- a checker

module _ (th : Theory) (k : Checker) (s : IsSound th k) where
  -- what stays is among all terms
  pub all_stays : StaysIn k.nodes k.lines (take k.earlier k.state.hyps.items) k.own.items
  all_stays = stays_later (take k.base k.nodes) k.nodes (base_grows k.base k.nodes) k.lines (take k.earlier k.state.hyps.items) k.own.items s.stays

  pub all_known : k.is_begun ≡ true → KnowsTheory th k.nodes k.equations.items k.derivatives.items
  all_known b = knows_later (take k.base k.nodes) k.nodes (base_grows k.base k.nodes) th k.equations.items k.derivatives.items (s.begun b)

  -- it judges by the theory and its table
  pub rules_there : k.is_begun ≡ true → (r : Rules) → r.theory.now ≡ th → r.equations.now ≡ k.equations.items → r.derivatives.now ≡ k.derivatives.items
      → r.table.now ≡ line_numbers k.lines → AreRules k.nodes r
  rules_there b r t e d n =
      let known = all_known b in
      let P : List Pattern → Type 0 = AllByRecursion (IsPattern k.nodes) in
      let D : List SharedDerivative → Type 0 = AreDerivativesAt k.nodes th.derivatives in
      let T : Theory → Type 0 = λ x. AreDerivativesAt k.nodes x.derivatives r.derivatives.now in
      let N : List ℕ → Type 0 = AllByRecursion (λ m. m < length k.nodes) in
      record {
        equations = ap (map (goal_at k.nodes)) e ∙ known.equations ∙ sym (ap (λ x. map goal_of x.equations) t);
        patterns = subst P (sym e) known.patterns;
        derivatives = subst T (sym t) (subst D (sym d) known.derivatives);
        table = subst N (sym n) (lines_there k.nodes k.lines s.lines);
      }

  -- More terms, and another state: what was taken stays, but for the state.
  module _ (m : List Tree) (g : Grows k.nodes m) (t : SharedState) where
    abbrev pub moved : Checking
    moved = record (checking_of k) { before = take k.earlier (state_at m t).hypotheses; state = state_at m t }

    pub checking_moved : checking_of (record k { nodes = m; state = t }) ≡ moved
    checking_moved =
        let before = take k.earlier (state_at m t).hypotheses in
        ap (λ y. record (checking_of k) { table = y; before = before; own = map (goal_at m) k.own.items; state = state_at m t })
        (lines_later k.nodes m k.lines g s.lines)
        ∙ ap (λ y. record (checking_of k) { before = before; own = y; state = state_at m t }) (goals_later k.nodes m g k.own.items all_stays.own)

  -- Lines that get their own numbers change nothing of what was taken.
  module _ (m : List Tree) (g : Grows k.nodes m) (l : NamedLines) (e : EntersLines k.nodes m k.lines l) where
    abbrev pub entered : Checker
    entered = record k { nodes = m; lines = l }

    same_state : state_at m k.state ≡ state_at k.nodes k.state
    same_state = state_later k.nodes m g k.state s.state

    pub entered_sound : IsSound th entered
    entered_sound =
        let base : take k.base m ≡ take k.base k.nodes = base_stays k.base k.nodes m s.base g in
        let T : List Tree → Type 0 = λ ts. StaysIn ts l (take k.earlier k.state.hyps.items) k.own.items in
        let K : List Tree → Type 0 = λ ts. KnowsTheory th ts k.equations.items k.derivatives.items in
        record {
          theory = s.theory;
          unspent = s.unspent;
          within = s.within;
          base = omega (arith, s.base, grows_length k.nodes m g);
          lines = e.lines;
          stays = subst T (sym base) (record {
            lines_stay = e.stay (take k.base k.nodes) s.stays.lines_stay;
            earlier = s.stays.earlier;
            own = s.stays.own;
          });
          state = state_there_later k.nodes m g k.state s.state;
          built = built_later k.nodes m k.terms g s.built;
          sorted = subst (IsSortedState th) (sym same_state) s.sorted;
          begun = λ b. subst K (sym base) (s.begun b);
        }

    pub entered_same : checking_of entered ≡ checking_of k
    entered_same =
        let c : Checking = checking_of k in
        ap (λ y. record c {
          table = y;
          before = take k.earlier (map (goal_at m) k.state.hyps.items);
          own = map (goal_at m) k.own.items;
          state = state_at m k.state;
        }) e.terms
        ∙ ap (λ y. record c { before = take k.earlier y; own = map (goal_at m) k.own.items; state = state_at m k.state })
        (goals_later k.nodes m g k.state.hyps.items s.state.hypotheses)
        ∙ ap (λ y. record c { own = y; state = state_at m k.state }) (goals_later k.nodes m g k.own.items all_stays.own)
        ∙ ap (λ y. record c { state = y }) same_state

    pub entered_ready : (x : Part) → IsPartReady th (checking_of k) x → IsPartReady th (checking_of entered) x
    entered_ready x r = let P : Checking → Type 0 = λ c. IsPartReady th c x in subst P (sym entered_same) r

    pub entered_took : (x : Part) (new : Checker) → Took th x entered new → Took th x k new
    entered_took x new t =
        let P : Checking → Type 0 = λ c. TakesPart th x c (checking_of new) in
        record { sound = t.sound; begun = t.begun; taken = subst P entered_same t.taken }

    pub entered_kept : (new : Checker) → IsAsBefore entered new → IsAsBefore k new
    entered_kept new b = record { failed = b.failed; derived = b.derived }

-- ---- numbers of the table

pub step_in_table : (nodes : List Tree) (l : NamedLines) → AreLinesAt nodes l → (x : ProofStep ℕ) → IsStepFor (length (lines_at nodes l)) x
    → AllOfStep (λ n. n < length (line_numbers l)) x
step_in_table nodes l a x f =
    let P : ℕ → Type 0 = λ n. IsStepFor n x in
    (steps_in_table (length (line_numbers l)) (x ∷ []) (subst P (lines_length nodes l a) f, tt)).0

pub links_in_table : (nodes : List Tree) (l : NamedLines) → AreLinesAt nodes l → (ls : List (LinkOf ℕ)) → AreLinksFor (length (lines_at nodes l)) ls
    → AllOfLinks (λ n. n < length (line_numbers l)) ls
links_in_table nodes l a ls f =
    let P : ℕ → Type 0 = λ n. AreLinksFor n ls in
    let chain : ChainOf ℕ = record { left = ls; right = [] } in
    (steps_in_table (length (line_numbers l)) (Simplify chain ∷ []) ((subst P (lines_length nodes l a) f, tt), tt)).0.0

-- the numbers that names hold are below a count
conds_within : (count : ℕ) (cs : List (ℕ × ℕ)) → AllByRecursion (λ c. (c.0 < count) × (c.1 < count)) cs → AllByRecursion (λ n. n < count) (flat_map sides_terms cs)
conds_within count [] a = tt
conds_within count (c ∷ cs) a = (a.0.0, (a.0.1, conds_within count cs a.1))

pub names_within : (count : ℕ) (ns : List GoalNames) → AllByRecursion (IsNameWithin count) ns → AllByRecursion (λ n. n < count) (names_terms ns)
names_within count [] a = tt
names_within count (n ∷ ns) a =
    all_both (λ m. m < count) (name_terms n) (names_terms ns) (a.0.left, (a.0.right, conds_within count n.conds a.0.conds)) (names_within count ns a.1)
