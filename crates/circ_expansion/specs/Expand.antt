-- Writing out a derivation from an accepted proof (`Expansion`).
use Rattle.std.specs.Prelude.{ℕ, ◌+◌, ◌-◌, List, [], ◌∷◌, ◌++◌, zero, suc, Bool, true, false, nat_lt, nat_eq, ◌==◌, ◌&&◌, if◌then◌else◌, not, map, length}
use Rattle.std.specs.Prelude.{take, Option, Some, None, unwrap_or, find}
use Rattle.std.specs.List.{slice_get, list_any}
use Rattle.std.specs.Option.{option_map, option_map_or, option_or}
use Rattle.std.specs.Cmp.Lexicographic.{pointwise}
use Rattle.circ_term.specs.Tree.{Tree, Trees, Var, App, none, more, sort_of, list_of, at, put_at}
use Rattle.circ_term.specs.Limits.{Limit, first_limit}
use Rattle.circ_term.specs.Substitution.{Substitution, instance}
use Rattle.circ_term.specs.Subst.{Bound}
use Rattle.circ_theory.specs.Theory.{Theory, Pair, goal, Derivative, CaseList}
use Rattle.circ_theory.specs.Derivable.{is_case}
use Rattle.circ_theory.specs.Experiment.{Entry, derived, on}
use Rattle.circ_theory.specs.Fresh.{fresh_in}
use Rattle.circ_theory.specs.Observing.{is_hidden}
use Rattle.circ_theory.specs.Rewriting.{by_terms}
use Rattle.circ_theory.specs.Variables.{variables_of, sorted}
use Rattle.circ_theory.specs.Goal.{Goal}
use Rattle.circ_theory.specs.declared.way.Way.{Way}
use Rattle.circ_theory.specs.declared.way.Way.TheVariants.{Forth, Back}
use Rattle.circ_match.specs.Matcher.{has_variable}
use Rattle.circ_rewrite.specs.Matching.{matching}
use Rattle.circ_special.specs.declared.place.Place.{Place}
use Rattle.circ_special.specs.Special.{place}
use Rattle.circ_special.specs.Fitting.{fits}
use Rattle.circ_proof.specs.Plain.{LinkOf, Equation_link, Hypothesis_link, Assumption_link, Content_link, WhyOf, WhysOf, Same_why, Split_why, no_why}
use Rattle.circ_proof.specs.Plain.{more_whys}
use Rattle.circ_proof.specs.Link.{Setting, setting}
use Rattle.circ_proof.specs.Certified.{start_term}
use Rattle.circ_proof.specs.Proof.{Proof}
use Rattle.circ_proof.specs.Accepted.{certificates_of}
use Rattle.circ_entry.specs.Entries.{Written, Numbered, numbered_entries, bare_entries, derivative_at}
use Rattle.circ_expansion.specs.Followed.{History, Histories, Simplified, Reduced_by, Derived, Open, goal_in, first_history, other_histories, Followed, put_or_same}
use Rattle.circ_expansion.specs.Followed.{led, led_all, new_of, hypotheses_of, goals_of}
use Rattle.circ_expansion.specs.Pieces.{Piece, Pieces, Parts, Equation_piece, Content_piece, Assumption_piece, Cases_piece, no_piece, more_pieces, no_part}
use Rattle.circ_expansion.specs.Pieces.{more_parts, pieces_joined, turned, bounds_by}

-- ---- the order of work: units are counted down, and the first thing that fails decides

-- A value with the units that are left; no unit is left (Long); a term is past a limit; or nothing fits, which never comes of an accepted proof.
pub data Spending (A : Type 0) : Type 0 where
  Yields : (value : A) (left : ℕ) → Spending A
  Long : Spending A
  Past : (limit : Limit) → Spending A
  Stopped : Spending A

abbrev pub continued : {A B : Type 0} → Spending A → (A → ℕ → Spending B) → Spending B
continued (Yields a n) f = f a n
continued Long f = Long
continued (Past l) f = Past l
continued Stopped f = Stopped

-- one unit is begun
abbrev pub counted : {B : Type 0} → ℕ → (ℕ → Spending B) → Spending B
counted zero f = Long
counted (suc n) f = f n

-- a term is tested
abbrev pub tested : {B : Type 0} → Tree → Spending B → Spending B
tested t o = option_map_or Past (first_limit t) o

abbrev pub all_tested : {B : Type 0} → List Tree → Spending B → Spending B
all_tested [] o = o
all_tested (t ∷ ts) o = tested t (all_tested ts o)

-- ---- entries and places

-- the first path, from the left, of a variable of this number
abbrev mutual
  pub first_path : ℕ → Tree → Option (List ℕ)
  first_path k (Var n s) = if n == k then Some [] else None
  first_path k (App f s ts) = first_path_in k 0 ts

  pub first_path_in : ℕ → ℕ → Trees → Option (List ℕ)
  first_path_in k i none = None
  first_path_in k i (more t ts) = option_or (option_map (λ p. i ∷ p) (first_path k t)) (first_path_in k (i + 1) ts)

abbrev pub hole_path : Derivative → List ℕ
hole_path d = unwrap_or (first_path 0 d.body) []

-- the hole's path in the experiment on a term
abbrev pub holes : List Numbered → List ℕ
holes [] = []
holes (c ∷ cs) = holes cs ++ hole_path c.entry.derivative

-- what stands between the hole of the experiment and a hypothesis: places with all arguments, and entries
pub data Layer : Type 0 where
  At_place : (op sort arg : ℕ) (args : Trees) → Layer
  By_entry : (entry : Numbered) → Layer

abbrev pub layered : List Layer → Tree → Tree
layered [] t = t
layered (At_place f s i ts ∷ xs) t = App f s (put_at ts i (layered xs t))
layered (By_entry c ∷ xs) t = derived c.entry.derivative (layered xs t) c.entry.parameters

-- the places on a path
abbrev pub places_on : Tree → List ℕ → List Layer
places_on t [] = []
places_on (Var n s) (i ∷ p) = []
places_on (App f s ts) (i ∷ p) = At_place f s i ts ∷ places_on (unwrap_or (slice_get (list_of ts) i) (Var 0 0)) p

-- ---- calls

-- what is the same throughout
pub record Background : Type 0 where
  pub theory : Theory
  pub places : List Place
  pub hypotheses : List (List Followed)
  pub certificate : Place → ℕ → List (LinkOf Tree)

-- A use of Ex (along nothing) or of Ly (along layers). In the whole term stands, at the path, the left side of the goal under `by`, within the layers, in the
-- experiment. It is to lead to the right side.
pub record Call : Type 0 where
  pub whole : Tree
  pub path : List ℕ
  pub entries : List Numbered
  pub along : Option (List Layer)
  pub goal : Followed
  pub by : Substitution
  pub assumptions : List Pair

abbrev pub Expander : Type 0
Expander = Call → ℕ → Spending Pieces

abbrev pub base : Call → List ℕ
base c = c.path ++ holes c.entries

-- the whole term with this term at the hole of the experiment
abbrev pub whole_with : Call → Tree → Tree
whole_with c t = put_or_same c.whole (base c) t

-- .. with this term of the proof, under the substitution, at the hole
abbrev pub around : Call → Tree → Tree
around c t = whole_with c (instance c.by t)

-- Terms of which a whole term is made are tested before it: terms of the proof, and wholes that an earlier unit tested. Of an accepted proof none of
-- them is past a limit, so no fault comes out of the order of units.

-- a term of the proof under the substitution, and the whole with it
abbrev pub stood : Call → Tree → List Tree
stood c t = instance c.by t ∷ around c t ∷ []

-- what a link puts at its path, and the term that comes of it
abbrev pub link_terms : Setting → LinkOf Tree → Tree → List Tree
link_terms S l t = new_of S l ∷ led S l t ∷ []

-- the same of links one after another
abbrev pub trail : Setting → List (LinkOf Tree) → Tree → List Tree
trail S [] t = []
trail S (l ∷ ls) t = link_terms S l t ++ trail S ls (led S l t)

-- a term within layers, from the innermost
abbrev pub risen : List Layer → Tree → List Tree
risen [] t = t ∷ []
risen (x ∷ xs) t = risen xs t ++ layered (x ∷ xs) t ∷ []

-- the experiment on a term, entry by entry
abbrev pub stages : List Entry → Tree → List Tree
stages [] t = []
stages (c ∷ cs) t = derived c.derivative t c.parameters ∷ stages cs (derived c.derivative t c.parameters)

-- ---- links of one side

abbrev pub and_piece : Piece → Spending Pieces → Spending Pieces
and_piece x o = continued o (λ xs n. Yields (more_pieces x xs) n)

abbrev pub and_pieces : Pieces → Spending Pieces → Spending Pieces
and_pieces xs o = continued o (λ ys n. Yields (pieces_joined xs ys) n)

abbrev pub by_way : Way → Pieces → Pieces
by_way Forth xs = xs
by_way Back xs = turned xs

abbrev pub start_of : {X : Type 0} → Way → (forth back : X) → X
start_of Forth x y = x
start_of Back x y = y

abbrev pub no_followed : Followed
no_followed = record { block = 0; history = Open }

abbrev pub followed_at : List Followed → ℕ → Followed
followed_at hs n = unwrap_or (slice_get hs n) no_followed

abbrev pub followed_goals : List Followed → List Goal
followed_goals hs = map (λ h. goal_in h.history) hs

-- what the links of a side are read against: the hypotheses as they are followed, and the proof's own assumptions, of which the
-- first is this assumption of the tree
pub record Basis : Type 0 where
  pub hypotheses : List Followed
  pub raised : ℕ
  pub assumptions : List Pair

abbrev pub basis : List Followed → (raised : ℕ) → (assumptions : List Pair) → Basis
basis hs a A = record { hypotheses = hs; raised = a; assumptions = A }

abbrev pub link_setting : Background → Basis → Setting
link_setting f b = setting f.theory f.places (followed_goals b.hypotheses) b.assumptions

-- the variables of two terms with what the substitution gives them
abbrev pub bounds_of : Substitution → (old new : Tree) → List Bound
bounds_of σ old new = bounds_by σ (sorted (variables_of (goal [] old new)))

-- the use of a hypothesis: of hidden sort along the places of its path, of visible sort at its path with the empty experiment
abbrev pub hypothesis_call : Background → Call → Followed → Way → (path : List ℕ) → (t u : Tree) → Substitution → Call
hypothesis_call f c h way path t u τ =
    if is_hidden f.theory (sort_of (goal_in h.history).left)
    then record c { whole = start_of way (around c t) (around c u); along = Some (places_on (instance c.by t) path); goal = h; by = τ }
    else record c { whole = start_of way (around c t) (around c u); path = base c ++ path; entries = []; along = None; goal = h; by = τ }

module _ (run : Expander) (f : Background) where
  -- the links of one side, from a term of the proof; each is written as it stands there, under the substitution
  abbrev pub links_written : Call → Basis → List (LinkOf Tree) → Tree → ℕ → Spending Pieces
  links_written c b [] t n = Yields no_piece n
  links_written c b (Equation_link number way path terms conds ∷ ls) t n =
      let u = led (link_setting f b) (Equation_link number way path terms conds) t in
      let vs = map (instance c.by) terms in
      all_tested (link_terms (link_setting f b) (Equation_link number way path terms conds) t)
      (counted n (λ m. all_tested vs (tested (around c u) (and_piece (Equation_piece number way (base c ++ path) vs) (links_written c b ls u m)))))
  links_written c b (Content_link op path term ∷ ls) t n =
      let u = led (link_setting f b) (Content_link op path term) t in
      let old = unwrap_or (at t path) t in
      all_tested (link_terms (link_setting f b) (Content_link op path term) t)
      (counted n (λ m. tested (instance c.by term) (tested (around c u)
      (and_piece (Content_piece op (base c ++ path) old term (bounds_of c.by old term)) (links_written c b ls u m)))))
  links_written c b (Assumption_link number way path ∷ ls) t n =
      let u = led (link_setting f b) (Assumption_link number way path) t in
      all_tested (link_terms (link_setting f b) (Assumption_link number way path) t)
      (counted n (λ m. tested (around c u) (and_piece (Assumption_piece (b.raised + number) way (base c ++ path)) (links_written c b ls u m))))
  links_written c b (Hypothesis_link number way path terms conds ∷ ls) t n =
      let u = led (link_setting f b) (Hypothesis_link number way path terms conds) t in
      let vs = map (instance c.by) terms in
      let h = followed_at b.hypotheses number in
      all_tested (link_terms (link_setting f b) (Hypothesis_link number way path terms conds) t ++ stood c t)
      (counted n (λ m. all_tested vs (tested (around c u)
      (continued (run (hypothesis_call f c h way path t u (by_terms (goal_in h.history) vs)) m)
      (λ xs k. and_pieces (by_way way xs) (links_written c b ls u k))))))

  -- ---- Ex

  abbrev pub cases_at : ℕ → CaseList
  cases_at s = unwrap_or (find (λ l. s == l.sort) f.theory.cases) (record { sort = s; constants = [] })

  -- with one case more, of the proof's own term and of the tree's
  abbrev pub case_basis : Basis → Pair → Basis
  case_basis b p = record b { assumptions = b.assumptions ++ p ∷ [] }

  abbrev pub case_call : Call → (here : Tree) → Pair → Call
  case_call c here p = record c { whole = around c here; assumptions = c.assumptions ++ p ∷ [] }

  abbrev mutual
    pub whys_written : Call → Basis → WhyOf Tree → (left right : Tree) → ℕ → Spending Pieces
    whys_written c b (Same_why chain) s t n =
        continued (links_written c b chain.left s n) (λ xs m. continued (links_written c b chain.right t m) (λ ys k. Yields (pieces_joined xs (turned ys)) k))
    whys_written c b (Split_why chain term ws) s t n =
        all_tested (trail (link_setting f b) chain.left s ++ trail (link_setting f b) chain.right t)
        (continued (links_written c b chain.left s n) (λ xs m. continued (links_written c b chain.right t m) (λ ys k.
        counted k (λ j. tested (instance c.by term)
        (continued (each_why c b ws term (cases_at (sort_of term)) (cases_at (sort_of term)).constants
        (led_all (link_setting f b) chain.left s) (led_all (link_setting f b) chain.right t) j)
        (λ ps i. Yields (pieces_joined xs (more_pieces (Cases_piece (instance c.by term) ps) (turned ys))) i))))))

    pub each_why : Call → Basis → WhysOf Tree → (term : Tree) → CaseList → (constants : List ℕ) → (left right : Tree) → ℕ → Spending Parts
    each_why c b no_why v l ks s t n = Yields no_part n
    each_why c b (more_whys w ws) v l [] s t n = Yields no_part n
    each_why c b (more_whys w ws) v l (k ∷ ks) s t n =
        all_tested (instance c.by v ∷ stood c s)
        (continued (whys_written (case_call c s (is_case (instance c.by v) l k)) (case_basis b (is_case v l k)) w s t n)
        (λ p m. continued (each_why c b ws v l ks s t m) (λ ps j. Yields (more_parts p ps) j)))

-- the substitution with the parameters of an entry, as variables numbered from k
abbrev pub extended : Derivative → (k : ℕ) → Substitution → Substitution → Substitution
extended d k σ p = λ n s. if not (nat_lt n k) && has_variable d.body (suc (n - k)) s then p (suc (n - k)) s else σ n s

-- what becomes of the derivative of this number
abbrev pub child : List Derivative → (sort : ℕ) → Histories → ℕ → History
child [] s hs k = Open
child (d ∷ ds) s hs zero = first_history hs
child (d ∷ ds) s hs (suc k) = child ds s (if d.hole == s then other_histories hs else hs) k

module _ (run : Expander) (f : Background) where
  abbrev pub derive_call : Call → Goal → Histories → Numbered → List Numbered → Call
  derive_call c g hs e cs = record c {
    entries = cs;
    along = None;
    goal = record { block = c.goal.block; history = child f.theory.derivatives (sort_of g.left) hs e.number };
    by = extended e.entry.derivative (fresh_in g) c.by e.entry.parameters;
  }

  -- the call for what becomes of a goal that is simplified to one with this left side
  abbrev pub simplified_call : Call → (left : Tree) → History → Call
  simplified_call c s h = record c { whole = around c s; along = None; goal = record { block = c.goal.block; history = h } }

  -- no assumption of the proof stands yet
  abbrev pub basis_in : Call → Basis
  basis_in c = basis (unwrap_or (slice_get f.hypotheses c.goal.block) []) (length c.assumptions) []

  abbrev pub ex : Call → History → List Numbered → ℕ → Spending Pieces
  ex c Open cs n = Stopped
  ex c (Simplified g chain h) cs n =
      let s = led_all (link_setting f (basis_in c)) chain.left g.left in
      all_tested (trail (link_setting f (basis_in c)) chain.left g.left)
      (continued (links_written run f c (basis_in c) chain.left g.left n) (λ xs m.
      continued (links_written run f c (basis_in c) chain.right g.right m) (λ ys k.
      counted k (λ j. continued (run (simplified_call c s h) j)
      (λ zs i. Yields (pieces_joined xs (pieces_joined zs (turned ys))) i)))))
  ex c (Reduced_by g why) cs n = whys_written run f c (basis_in c) why g.left g.right n
  ex c (Derived g children) [] n = Stopped
  ex c (Derived g children) (e ∷ cs) n = counted n (run (derive_call c g children e cs))

-- ---- Ly

-- the first case by which an occurrence is guarded, with the first derivative by which it holds and the path of its instance
pub data Case : Type 0 where
  Visible_case : (number : ℕ) (above : List ℕ) → Case
  Place_case : Case
  Hidden_case : (number : ℕ) (above : List ℕ) → Case
  No_case : Case

abbrev pub is_special_path : List Place → Tree → List ℕ → Bool
is_special_path G t [] = true
is_special_path G (Var n s) (i ∷ p) = false
is_special_path G (App f s ts) (i ∷ p) =
    list_any (λ g. (g.op == f) && (g.arg == i)) G && option_map_or (λ a. is_special_path G a p) (slice_get (list_of ts) i) false

-- the path above an instance of the derivative with its hole at the path
abbrev pub above_hole : Derivative → Tree → List ℕ → Option (List ℕ)
above_hole d t p =
    let q = take (length p - length (hole_path d)) p in
    if pointwise nat_eq (q ++ hole_path d) p && option_map_or (λ u. fits 0 d.hole d.body u) (at t q) false then Some q else None

abbrev pub visible_case : Theory → ℕ → List Derivative → Tree → List ℕ → Option Case
visible_case th k [] t p = None
visible_case th k (d ∷ ds) t p =
    option_or (if is_hidden th (sort_of d.body) then None else option_map (Visible_case k) (above_hole d t p)) (visible_case th (k + 1) ds t p)

abbrev pub hidden_case : Theory → List Place → ℕ → List Derivative → Tree → List ℕ → Option Case
hidden_case th G k [] t p = None
hidden_case th G k (d ∷ ds) t p =
    option_or
    (if is_hidden th (sort_of d.body) then option_map_or (λ q. if is_special_path G t q then Some (Hidden_case k q) else None) (above_hole d t p) None else None)
    (hidden_case th G (k + 1) ds t p)

abbrev pub guard_case : Theory → List Place → Tree → List ℕ → Case
guard_case th G t p =
    unwrap_or (option_or (visible_case th 0 th.derivatives t p)
    (option_or (if is_special_path G t p then Some Place_case else None) (hidden_case th G 0 th.derivatives t p))) No_case

-- the same path, in the arguments with one more before them
abbrev pub next_arg : List ℕ → List ℕ
next_arg [] = []
next_arg (i ∷ p) = suc i ∷ p

-- the paths of a variable, from the left
abbrev mutual
  pub paths_of : (number sort : ℕ) → Tree → List (List ℕ)
  paths_of n s (Var m r) = if (m == n) && (r == s) then [] ∷ [] else []
  paths_of n s (App g r ts) = paths_in n s ts

  pub paths_in : (number sort : ℕ) → Trees → List (List ℕ)
  paths_in n s none = []
  paths_in n s (more t ts) = map (λ p. zero ∷ p) (paths_of n s t) ++ map next_arg (paths_in n s ts)

-- the entry of the derivative of this number whose instance a term is
abbrev pub entry_in : Theory → ℕ → Tree → Numbered
entry_in th k t = record { number = k; entry = record { derivative = derivative_at th k; parameters = matching (derivative_at th k).body t } }

abbrev pub arg_sort : Theory → Place → ℕ
arg_sort th g = option_map_or (λ o. unwrap_or (slice_get o.args g.arg) 0) (slice_get th.signature.ops g.op) 0

abbrev pub start_at : Theory → Place → Derivative → Tree
start_at th g d = option_map_or (λ o. start_term o g d) (slice_get th.signature.ops g.op) (Var 0 0)

module _ (run : Expander) (f : Background) where
  -- the use of Ly for an occurrence at the path p; here is the term at the hole of the rest of the experiment, xs the items below the place
  abbrev pub occurrence_call : Call → List Layer → (here : Tree) → (p : List ℕ) → Case → Call
  occurrence_call c xs here p (Visible_case k q) =
      record c { whole = whole_with c here; path = base c ++ q; entries = entry_in f.theory k (unwrap_or (at here q) here) ∷ []; along = Some xs }
  occurrence_call c xs here p Place_case = record c { whole = whole_with c here; along = Some (places_on here p ++ xs) }
  occurrence_call c xs here p (Hidden_case k q) =
      record c { whole = whole_with c here; along = Some (places_on here q ++ By_entry (entry_in f.theory k (unwrap_or (at here q) here)) ∷ xs) }
  occurrence_call c xs here p No_case = c

  -- the last term is guarded, so there is a case
  abbrev pub occurrence_use : Case → Call → ℕ → Spending Pieces
  occurrence_use (Visible_case k q) c n = run c n
  occurrence_use Place_case c n = run c n
  occurrence_use (Hidden_case k q) c n = run c n
  occurrence_use No_case c n = Stopped

  -- the occurrences from the left, each changed to the term b
  abbrev pub occurrences_written : Call → List Layer → (b last : Tree) → List (List ℕ) → (here : Tree) → ℕ → Spending Pieces
  occurrences_written c xs b last [] here n = Yields no_piece n
  occurrences_written c xs b last (p ∷ ps) here n =
      all_tested (here ∷ whole_with c here ∷ [])
      (counted n (λ m. tested (put_or_same here p b) (tested (whole_with c (put_or_same here p b))
      (continued (occurrence_use (guard_case f.theory f.places last p) (occurrence_call c xs here p (guard_case f.theory f.places last p)) m)
      (λ ys k. and_pieces ys (occurrences_written c xs b last ps (put_or_same here p b) k))))))

  -- the derivative of the entry on the operator with this term at the place
  abbrev pub derived_place : Place → (sort : ℕ) → Trees → Entry → Tree → Tree
  derived_place g s ts e a = derived e.derivative (App g.op s (put_at ts g.arg a)) e.parameters

  abbrev pub certified_call : Call → List Numbered → Substitution → Call
  certified_call c cs σ = record c { entries = cs; by = σ }

  abbrev pub no_basis : Basis
  no_basis = basis [] 0 []

  -- what stands at the place, with a side of the goal in it
  abbrev pub left_here : Call → List Layer → Tree
  left_here c xs = layered xs (instance c.by (goal_in c.goal.history).left)

  abbrev pub right_here : Call → List Layer → Tree
  right_here c xs = layered xs (instance c.by (goal_in c.goal.history).right)

  -- the terms of a use at a place: the certificate's, and those that stand at the place with a side of the goal in it
  abbrev pub place_terms : Call → Place → (sort : ℕ) → Trees → List Layer → Numbered → List Tree
  place_terms c g s ts xs e =
      let start = start_at f.theory g e.entry.derivative in
      let ls = f.certificate g e.number in
      let ys = By_entry e ∷ At_place g.op s g.arg ts ∷ xs in
      let left = instance c.by (goal_in c.goal.history).left in
      let right = instance c.by (goal_in c.goal.history).right in
      start ∷ (trail (link_setting f no_basis) ls start ++ (risen ys left ++ risen ys right))

  -- the certificate of a place and the first entry, forwards from the left end and from the right end, and between them its occurrences
  abbrev pub through_place : Call → Place → (sort : ℕ) → Trees → List Layer → List Numbered → ℕ → Spending Pieces
  through_place c g s ts xs [] n = Stopped
  through_place c g s ts xs (e ∷ cs) n =
      let start = start_at f.theory g e.entry.derivative in
      let ls = f.certificate g e.number in
      let σ = matching start (derived_place g s ts e.entry (left_here c xs)) in
      let τ = matching start (derived_place g s ts e.entry (right_here c xs)) in
      let last = led_all (link_setting f no_basis) ls start in
      let paths = paths_of 0 (arg_sort f.theory g) last in
      all_tested (place_terms c g s ts xs e)
      (continued (links_written run f (certified_call c cs σ) no_basis ls start n) (λ l m.
      continued (links_written run f (certified_call c cs τ) no_basis ls start m) (λ r k.
      continued (occurrences_written (record c { entries = cs }) xs (right_here c xs) last paths (instance σ last) k) (λ o j.
      Yields (pieces_joined l (pieces_joined o (turned r))) j))))

  abbrev pub ly : Call → List Layer → ℕ → Spending Pieces
  ly c [] n = counted n (run (record c { along = None }))
  ly c (By_entry e ∷ xs) n = counted n (run (record c { entries = e ∷ c.entries; along = Some xs }))
  ly c (At_place g s i ts ∷ xs) n = through_place c (place g i) s ts xs c.entries n

  -- the whole term is tested, and then it is Ex or Ly
  abbrev pub single_use : Call → ℕ → Spending Pieces
  single_use c n = tested c.whole (option_map_or (λ xs. ly c xs n) c.along (ex run f c c.goal.history c.entries n))

-- so many uses stand inside one another at most
abbrev pub uses : (depth : ℕ) → Background → Expander
uses zero f = λ c n. Stopped
uses (suc k) f = single_use (uses k f) f

-- ---- the whole

abbrev pub first_links : List (List (LinkOf Tree)) → List (LinkOf Tree)
first_links [] = []
first_links (ls ∷ lss) = ls

abbrev pub later_links : List (List (LinkOf Tree)) → List (List (LinkOf Tree))
later_links [] = []
later_links (ls ∷ lss) = lss

-- The lists stand for the derivatives of a sort, in order: the one for the derivative of this number, and those after all.
abbrev pub links_for : List Derivative → (sort : ℕ) → List (List (LinkOf Tree)) → ℕ → List (LinkOf Tree)
links_for [] s lss k = []
links_for (d ∷ ds) s lss zero = first_links lss
links_for (d ∷ ds) s lss (suc k) = links_for ds s (if d.hole == s then later_links lss else lss) k

abbrev pub links_after : List Derivative → (sort : ℕ) → List (List (LinkOf Tree)) → List (List (LinkOf Tree))
links_after [] s lss = lss
links_after (d ∷ ds) s lss = links_after ds s (if d.hole == s then later_links lss else lss)

abbrev pub result_sort : Theory → Place → ℕ
result_sort th g = option_map_or (λ o. o.result) (slice_get th.signature.ops g.op) 0

-- the certificate of a place and the derivative of this number
abbrev pub certificate_of : Theory → List Place → List (List (LinkOf Tree)) → Place → ℕ → List (LinkOf Tree)
certificate_of th [] lss g k = []
certificate_of th (h ∷ hs) lss g k =
    if (h.op == g.op) && (h.arg == g.arg) then links_for th.derivatives (result_sort th h) lss k
    else certificate_of th hs (links_after th.derivatives (result_sort th h) lss) g k

abbrev pub background_of : Theory → Proof → Background
background_of th p = record {
  theory = th;
  places = p.places;
  hypotheses = hypotheses_of th p 0 [] [] p.blocks;
  certificate = certificate_of th p.places (certificates_of p);
}

-- The derivation from the left to the right side of a goal, counted from 0, in an experiment (`Expansion`). Each use costs a unit, so no more of them stand
-- inside one another than there are units.
abbrev pub expansion : (units : ℕ) → Theory → Proof → (goal : ℕ) → List Written → Spending Pieces
expansion k th p goal ws =
    let cs = numbered_entries th ws in
    let g = followed_at (goals_of th p 0 [] p.blocks) goal in
    let s = on (bare_entries cs) (goal_in g.history).left in
    let t = on (bare_entries cs) (goal_in g.history).right in
    let whole : Call = record { whole = s; path = []; entries = cs; along = None; goal = g; by = Var; assumptions = [] } in
    all_tested (stages (bare_entries cs) (goal_in g.history).left ++ stages (bare_entries cs) (goal_in g.history).right)
    (tested s (tested t (counted k (uses k (background_of th p) whole))))
