-- What `expansion` gives for an accepted proof leads from the one side to the other in the experiment (`expansion-answer`).
use Rattle.std.proofs.Common.{◌≡◌, ◌⊎◌, ℕ, ◌+◌, List, [], ◌∷◌, ◌++◌, zero, suc, Bool, true, false, ◌==◌, ◌&&◌, if◌then◌else◌, map, Option, Some, unwrap_or}
use Rattle.std.proofs.Common.{refl, ap, sym, ◌∙◌, subst, arith, inl, inr}
use Rattle.std.specs.List.{slice_get, filter, AllByRecursion, Contains}
use Rattle.std.specs.Option.{option_map_or}
use Rattle.std.proofs.lemmas.Bool.{eqb-true, eq-eqb, and_parts}
use Rattle.std.proofs.lemmas.List.Elements.{Contains-append_cases}
use Rattle.std.proofs.lemmas.Option.{same_Some}
use Rattle.circ_term.specs.Tree.{Tree, sort_of}
use Rattle.circ_theory.specs.Signature.{Operator, IsWellSorted}
use Rattle.circ_theory.specs.Theory.{Theory, Derivative}
use Rattle.circ_theory.specs.WellFormed.{IsWellFormed, IsDerivative}
use Rattle.circ_theory.specs.Experiment.{Entry, Fits, on, derived}
use Rattle.circ_theory.specs.Goal.{Goal}
use Rattle.circ_theory.proofs.Derived.{derived_by}
use Rattle.circ_theory.proofs.Weakening.{first_or_rest}
use Rattle.circ_special.specs.declared.place.Place.{Place}
use Rattle.circ_special.specs.Special.{IsPlace, place}
use Rattle.circ_proof.specs.Plain.{LinkOf}
use Rattle.circ_proof.specs.Goals.{AreSortedGoals}
use Rattle.circ_proof.specs.Link.{setting, AllOfLinks}
use Rattle.circ_proof.specs.Certified.{due, AreCertified}
use Rattle.circ_theory.specs.Rewriting.{named}
use Rattle.circ_proof.specs.Proof.{GoalNames, Block, Proof, pair_at, goal_at, IsBlockFor, IsPlainBlock, IsPlain, ProofFor}
use Rattle.circ_proof.specs.Accepted.{steps_of, certificates_of, BlocksDerive, Derives, Accepted}
use Rattle.circ_proof.proofs.Sorted.{sorted_append}
use Rattle.circ_proof.proofs.Members.{nothing, pick}
use Rattle.circ_soundness.proofs.Blocks.{block_sorted}
use Rattle.circ_soundness.proofs.Resolving.{certificates_sorted, steps_sorted_terms}
use Rattle.circ_theory.proofs.Rewriting.{contains_at}
use Rattle.circ_entry.specs.Entries.{Numbered, bare_entries, Written, numbered_entries, FitsWritten}
use Rattle.circ_entry.proofs.Written.{derivative_is, written_fits}
use Rattle.circ_expansion.specs.Answers.{LeadsOnGoal}
use Rattle.circ_expansion.specs.Goals.{all_goals}
use Rattle.circ_expansion.specs.Followed.{Histories, no_history, more_histories, goal_in, list_in, Followed, followed_in, told_in, hypotheses_of, goals_of, Told}
use Rattle.circ_expansion.specs.Pieces.{Pieces, PiecesLead}
use Rattle.circ_expansion.specs.Expand.{Spending, Yields, Stopped, counted, tested, Background, followed_goals, uses, followed_at, first_links, later_links}
use Rattle.circ_expansion.specs.Expand.{links_for, links_after, result_sort, certificate_of, background_of, expansion, stages}
use Rattle.circ_expansion.proofs.Going.{Goes, goes_so, goes_counted, goes_tested, goes_all_tested}
use Rattle.circ_expansion.proofs.Plainness.{AreBare, AreBareGoals, steps_bare, certificates_bare}
use Rattle.circ_expansion.proofs.Lifting.{AreNumbered}
use Rattle.circ_expansion.proofs.Listed.{one_list_found}
use Rattle.circ_expansion.proofs.Standing.{block_hypotheses, IsHistory, AreHistories, history_sorted, IsFollowed, IsCertificate, IsBackground, IsEnd}
use Rattle.circ_expansion.proofs.Telling.{IsTold, told_holds}
use Rattle.circ_expansion.proofs.Using.{whole_call, expanded_leads, expanded_derivable}

-- a goal of a list of blocks' hypotheses is followed as it should be
abbrev pub IsGoodIn : Theory → Proof → List (List Followed) → Followed → Type 0
IsGoodIn th p all x = IsHistory (setting th p.places (followed_goals (unwrap_or (slice_get all x.block) [])) []) x.history

in_followed : (th : Theory) (p : Proof) (all : List (List Followed)) (n : ℕ) (F : List Goal) → followed_goals (unwrap_or (slice_get all n) []) ≡ F
    → (hs : Histories) → AreHistories (setting th p.places F []) hs
    → (x : Followed) → Contains (followed_in n hs) x → IsGoodIn th p all x
in_followed th p all n F e no_history a x c = nothing x c
in_followed th p all n F e (more_histories h hs) a x c =
    let S : List Goal → Type 0 = λ K. IsHistory (setting th p.places K []) h in
    pick (IsGoodIn th p all) (record { block = n; history = h }) x (followed_in n hs) (subst S (sym e) a.0) (λ d. in_followed th p all n F e hs a.1 x d) c

goals_followed : (n : ℕ) (hs : Histories) → followed_goals (followed_in n hs) ≡ map goal_in (list_in hs)
goals_followed n no_history = refl
goals_followed n (more_histories h hs) = ap (λ ps. goal_in h ∷ ps) (goals_followed n hs)

goals_append : (xs ys : List Followed) → followed_goals (xs ++ ys) ≡ followed_goals xs ++ followed_goals ys
goals_append [] ys = refl
goals_append (x ∷ xs) ys = ap (λ ps. goal_in x.history ∷ ps) (goals_append xs ys)

-- the goals of a plain block have no conditions
pub block_bare : (table : List Tree) (gs : List Goal) (ns : List GoalNames) → gs ≡ map (goal_at table) ns → AllByRecursion (λ (n : GoalNames). n.conds ≡ []) ns
    → AreBareGoals gs
block_bare table gs ns e a = subst AreBareGoals (sym e) (named_bare ns a)
  where
    named_bare : (ns : List GoalNames) → AllByRecursion (λ (n : GoalNames). n.conds ≡ []) ns → AreBareGoals (map (goal_at table) ns)
    named_bare [] a = tt
    named_bare (n ∷ ns) a = (ap (map (pair_at table)) a.0, named_bare ns a.1)

record BlocksHold (th : Theory) (p : Proof) (all hyps : List (List Followed)) (gs : List Followed) (bs : List Block) : Type 0 where
  are : followed_goals gs ≡ all_goals bs
  hypotheses : (k : ℕ) (x : Followed) → Contains (unwrap_or (slice_get hyps k) []) x → IsGoodIn th p all x
  goals : (x : Followed) → Contains gs x → IsGoodIn th p all x

blocks_hold : (th : Theory) → IsWellFormed th → (p : Proof) → AllByRecursion (IsWellSorted th.signature) p.table
    → (all : List (List Followed)) (n : ℕ) (H : List Goal) (fs : List Followed) (bs : List Block)
    → AllByRecursion (IsBlockFor th p.table) bs → AllByRecursion IsPlainBlock bs → (dss : List (List Goal)) → BlocksDerive th p H bs dss
    → AreSortedGoals th H → followed_goals fs ≡ H
    → ((k : ℕ) → slice_get all (n + k) ≡ slice_get (hypotheses_of th p n H fs bs) k) → ((x : Followed) → Contains fs x → IsGoodIn th p all x)
    → BlocksHold th p all (hypotheses_of th p n H fs bs) (goals_of th p n H bs) bs
blocks_hold th ok p ts all n H fs [] f pb [] r sh e at good = record { are = refl; hypotheses = λ k x c. nothing x c; goals = λ x c. nothing x c }
blocks_hold th ok p ts all n H fs [] f pb (ds ∷ dss) r sh e at good = absurd r
blocks_hold th ok p ts all n H fs (b ∷ bs) f pb [] r sh e at good = absurd r
blocks_hold th ok p ts all n H fs (b ∷ bs) f pb (ds ∷ dss) r sh e at good =
    let F : List Goal = H ++ ds in
    let t : Told = told_in th p H b in
    let sg : AreSortedGoals th b.goals = block_sorted th p.table ts b f.0 in
    let i : IsTold th p.places H b.goals F t =
    told_holds th ok p.places H b.goals F sh sg (block_bare p.table b.goals b.names f.0.goals pb.0.names) (steps_of p.table b)
    (steps_sorted_terms th.signature p.table ts b.steps f.0.steps) (steps_bare (named p.table) b.steps pb.0.steps) r.0 in
    let mine : List Followed = fs ++ followed_in n t.derived in
    let here : slice_get all n ≡ Some mine = (let z : n ≡ n + 0 = omega arith in ap (slice_get all) z) ∙ at 0 in
    let mine_is : followed_goals mine ≡ F =
    goals_append fs (followed_in n t.derived) ∙ ap (λ ps. ps ++ followed_goals (followed_in n t.derived)) e ∙ ap (λ ps. H ++ ps) (goals_followed n t.derived)
    ∙ i.whole in
    let is : followed_goals (unwrap_or (slice_get all n) []) ≡ F = ap (λ o. followed_goals (unwrap_or o [])) here ∙ mine_is in
    let own : (x : Followed) → Contains (followed_in n t.derived) x → IsGoodIn th p all x = λ x c. in_followed th p all n F is t.derived i.derived_hold x c in
    let ours : (x : Followed) → Contains (followed_in n t.goals) x → IsGoodIn th p all x = λ x c. in_followed th p all n F is t.goals i.goals_hold x c in
    let later : List Followed = fs ++ followed_in n t.goals in
    let later_is : followed_goals later ≡ H ++ b.goals =
    goals_append fs (followed_in n t.goals) ∙ ap (λ ps. ps ++ followed_goals (followed_in n t.goals)) e
    ∙ ap (λ ps. H ++ ps) (goals_followed n t.goals ∙ i.goals_are) in
    let rest = blocks_hold th ok p ts all (n + 1) (H ++ b.goals) later bs f.1 pb.1 dss r.1 (sorted_append th H b.goals sh sg) later_is
    (λ k. (let z : n + 1 + k ≡ n + suc k = omega arith in ap (slice_get all) z)
    ∙ at (suc k)) (λ x c. both x fs (followed_in n t.goals) good ours (Contains-append_cases fs (followed_in n t.goals) x c)) in
    record {
      are = goals_append (followed_in n t.goals) (goals_of th p (n + 1) (H ++ b.goals) bs)
          ∙ ap (λ ps. ps ++ followed_goals (goals_of th p (n + 1) (H ++ b.goals) bs)) (goals_followed n t.goals ∙ i.goals_are)
          ∙ ap (λ ps. b.goals ++ ps) rest.are;
      hypotheses = split mine (hypotheses_of th p (n + 1) (H ++ b.goals) later bs) (both_in fs (followed_in n t.derived) good own) rest.hypotheses;
      goals = λ x c. both x (followed_in n t.goals) (goals_of th p (n + 1) (H ++ b.goals) bs) ours rest.goals
          (Contains-append_cases (followed_in n t.goals) (goals_of th p (n + 1) (H ++ b.goals) bs) x c);
    }
  where
    both : (x : Followed) (xs ys : List Followed) → ((y : Followed) → Contains xs y → IsGoodIn th p all y)
        → ((y : Followed) → Contains ys y → IsGoodIn th p all y) → Contains xs x ⊎ Contains ys x → IsGoodIn th p all x
    both x xs ys g h (inl c) = g x c
    both x xs ys g h (inr c) = h x c

    both_in : (xs ys : List Followed) → ((y : Followed) → Contains xs y → IsGoodIn th p all y) → ((y : Followed) → Contains ys y → IsGoodIn th p all y)
        → (x : Followed) → Contains (xs ++ ys) x → IsGoodIn th p all x
    both_in xs ys g h x c = both x xs ys g h (Contains-append_cases xs ys x c)

    split : (first : List Followed) (others : List (List Followed)) → ((x : Followed) → Contains first x → IsGoodIn th p all x)
        → ((k : ℕ) (x : Followed) → Contains (unwrap_or (slice_get others k) []) x → IsGoodIn th p all x)
        → (k : ℕ) (x : Followed) → Contains (unwrap_or (slice_get (first ∷ others) k) []) x → IsGoodIn th p all x
    split first others g h zero x c = g x c
    split first others g h (suc k) x c = h k x c

-- ---- certificates by their places and derivatives

record After (th : Theory) (G : List Place) (rest : List (Place × Derivative)) (lss : List (List (LinkOf Tree))) : Type 0 where
  certified : AreCertified th G rest lss
  sorted : AllByRecursion (AllOfLinks (IsWellSorted th.signature)) lss
  bare : AllByRecursion AreBare lss

-- the certificates of a place and the derivatives of a sort, and what is after them
abbrev of_place : Place → (sort : ℕ) → List Derivative → List (Place × Derivative)
of_place g s ds = map (λ d. (g, d)) (filter (λ d. d.hole == s) ds)

after_one : (th : Theory) (G : List Place) (x : Place × Derivative) (xs : List (Place × Derivative)) (lss : List (List (LinkOf Tree)))
    → After th G (x ∷ xs) lss → IsCertificate th G x.0 x.1 (first_links lss) × After th G xs (later_links lss)
after_one th G x xs [] a = absurd a.certified
after_one th G x xs (ls ∷ lss) a = (
  record { sorted = a.sorted.0; bare = a.bare.0; certified = a.certified.0 },
  record {
    certified = a.certified.1;
    sorted = a.sorted.1;
    bare = a.bare.1;
  },
)

links_for_holds : (th : Theory) (G : List Place) (g : Place) (ds : List Derivative) (s : ℕ) (rest : List (Place × Derivative))
    (lss : List (List (LinkOf Tree))) → After th G (of_place g s ds ++ rest) lss
    → (k : ℕ) (d : Derivative) → slice_get ds k ≡ Some d → d.hole ≡ s → IsCertificate th G g d (links_for ds s lss k)
links_for_holds th G g [] s rest lss a k d e h = absurd (cc)
links_for_holds th G g (x ∷ ds) s rest lss a zero d e h =
    let same : x ≡ d = same_Some x d e in
    let t : (x.hole == s) ≡ true = eq-eqb x.hole s (ap (λ (y : Derivative). y.hole) same ∙ h) in
    let P : Derivative → Type 0 = λ y. IsCertificate th G g y (first_links lss) in
    subst P same (after_one th G (g, x) (of_place g s ds ++ rest) lss (rw t at a)).0
links_for_holds th G g (x ∷ ds) s rest lss a (suc k) d e h = go (x.hole == s) refl (λ l b. links_for_holds th G g ds s rest l b k d e h)
  where
    go : (v : Bool) → (x.hole == s) ≡ v
        → ((l : List (List (LinkOf Tree))) → After th G (of_place g s ds ++ rest) l → IsCertificate th G g d (links_for ds s l k))
        → IsCertificate th G g d (links_for ds s (if v then later_links lss else lss) k)
    go true t ih = ih (later_links lss) (after_one th G (g, x) (of_place g s ds ++ rest) lss (rw t at a)).1
    go false t ih = ih lss (rw t at a)

links_after_hold : (th : Theory) (G : List Place) (g : Place) (ds : List Derivative) (s : ℕ) (rest : List (Place × Derivative))
    (lss : List (List (LinkOf Tree))) → After th G (of_place g s ds ++ rest) lss
    → After th G rest (links_after ds s lss)
links_after_hold th G g [] s rest lss a = a
links_after_hold th G g (x ∷ ds) s rest lss a = go (x.hole == s) refl (λ l b. links_after_hold th G g ds s rest l b)
  where
    go : (v : Bool) → (x.hole == s) ≡ v → ((l : List (List (LinkOf Tree))) → After th G (of_place g s ds ++ rest) l → After th G rest (links_after ds s l))
        → After th G rest (links_after ds s (if v then later_links lss else lss))
    go true t ih = ih (later_links lss) (after_one th G (g, x) (of_place g s ds ++ rest) lss (rw t at a)).1
    go false t ih = ih lss (rw t at a)

certificate_holds : (th : Theory) (G gs : List Place) → AllByRecursion (IsPlace th) gs → (lss : List (List (LinkOf Tree))) → After th G (due th gs) lss
    → (g : Place) (o : Operator) (k : ℕ) (d : Derivative) → Contains gs g → slice_get th.signature.ops g.op ≡ Some o → slice_get th.derivatives k ≡ Some d
    → d.hole ≡ o.result
    → IsCertificate th G g d (certificate_of th gs lss g k)
certificate_holds th G [] is lss a g o k d c lo ld h = nothing g c
certificate_holds th G (x ∷ xs) is lss a g o k d c lo ld h =
    go ((x.op == g.op) && (x.arg == g.arg)) refl (λ b l. certificate_holds th G xs is.1 b l g o k d) (first_or_rest x g xs c)
  where
    r : ℕ
    r = result_sort th x

    due_is : due th (x ∷ xs) ≡ of_place x r th.derivatives ++ due th xs
    due_is = let e = is.0.listed in rw e refl

    all : After th G (of_place x r th.derivatives ++ due th xs) lss
    all = let P : List (Place × Derivative) → Type 0 = λ ys. After th G ys lss in subst P due_is a

    here : x ≡ g → IsCertificate th G g d (links_for th.derivatives r lss k)
    here e =
        let P : Place → Type 0 = λ y. IsCertificate th G y d (links_for th.derivatives r lss k) in
        let hr : d.hole ≡ r = h ∙ sym (ap (λ (y : Option Operator). option_map_or (λ q. q.result) y 0) (ap (λ (y : Place). slice_get th.signature.ops y.op) e
        ∙ lo)) in
        subst P e (links_for_holds th G x th.derivatives r (due th xs) lss all k d ld hr)

    go : (v : Bool) → ((x.op == g.op) && (x.arg == g.arg)) ≡ v
        → ((b : List (List (LinkOf Tree))) → After th G (due th xs) b → Contains xs g → slice_get th.signature.ops g.op ≡ Some o
        → slice_get th.derivatives k ≡ Some d → d.hole ≡ o.result → IsCertificate th G g d (certificate_of th xs b g k))
        → (x ≡ g) ⊎ Contains xs g → IsCertificate th G g d
        (if v then links_for th.derivatives r lss k else certificate_of th xs (links_after th.derivatives r lss) g k)
    go true e ih w =
        let p = and_parts (x.op == g.op) (x.arg == g.arg) e in
        here (ap (λ y. place y x.arg) (eqb-true x.op g.op p.0) ∙ ap (place g.op) (eqb-true x.arg g.arg p.1))
    go false e ih (inr w) = ih (links_after th.derivatives r lss) (links_after_hold th G x th.derivatives r (due th xs) lss all) w lo ld h
    go false e ih (inl w) =
        let a1 : (x.op == g.op) ≡ true = eq-eqb x.op g.op (ap (λ (y : Place). y.op) w) in
        let b1 : (x.arg == g.arg) ≡ true = eq-eqb x.arg g.arg (ap (λ (y : Place). y.arg) w) in
        absurd (let z = rw (a1, b1) at e in cc)

-- ---- the frame of an accepted proof

whole_blocks : (th : Theory) → IsWellFormed th → (p : Proof) → ProofFor th p → IsPlain p → (dss : List (List Goal)) → Derives th p dss
    → BlocksHold th p (hypotheses_of th p 0 [] [] p.blocks) (hypotheses_of th p 0 [] [] p.blocks) (goals_of th p 0 [] p.blocks) p.blocks
whole_blocks th ok p f pl dss d = blocks_hold th ok p f.sorted (hypotheses_of th p 0 [] [] p.blocks) 0 [] [] p.blocks f.blocks pl.blocks dss d.blocks
    (λ q c. nothing q c) refl (λ k. let z : 0 + k ≡ k = omega arith in ap (slice_get (hypotheses_of th p 0 [] [] p.blocks)) z) (λ x c. nothing x c)

pub frame_holds : (th : Theory) → IsWellFormed th → (p : Proof) → ProofFor th p → IsPlain p → (dss : List (List Goal)) → Derives th p dss
    → IsBackground (background_of th p)
frame_holds th ok p f pl dss d = record {
  well_formed = ok;
  places = f.places.places;
  one_list = λ l c s e. one_list_found th ok l c s e;
  followed = λ b x c. (whole_blocks th ok p f pl dss d).hypotheses b x c;
  certified = λ g o k e c lo ld h.
      certificate_holds th p.places p.places f.places.places (certificates_of p)
      (record {
        certified = d.admissible;
        sorted = certificates_sorted th.signature p.table f.sorted p.certificates f.certificates;
        bare = certificates_bare (named p.table) p.certificates pl.certificates;
      }) g o k e c lo ld h;
}

-- ---- the whole

on_sorted : (th : Theory) → IsWellFormed th → (cs : List Entry) (t : Tree) → Fits th cs (sort_of t) → IsWellSorted th.signature t
    → IsWellSorted th.signature (on cs t)
on_sorted th ok [] t f w = w
on_sorted th ok (c ∷ cs) t f w =
    let d = c.derivative in
    let k = derived_by th.signature d t c.parameters (ok.derivatives d f.0) (sym f.1) w f.2 in
    let F : ℕ → Type 0 = Fits th cs in
    on_sorted th ok cs (derived d t c.parameters) (subst F (sym k.same_sort) f.3) k.well_sorted

in_list : (xs : List Followed) (n : ℕ) (g : Goal) → slice_get (followed_goals xs) n ≡ Some g
    → Contains xs (followed_at xs n) × (goal_in (followed_at xs n).history ≡ g)
in_list [] n g e = absurd (cc)
in_list (x ∷ xs) zero g e = ((zero, omega arith, refl), same_Some (goal_in x.history) g e)
in_list (x ∷ xs) (suc n) g e = let r = in_list xs n g e in ((suc r.0.0, omega (arith, r.0.1), r.0.2), r.1)

numbered_are : (th : Theory) → IsWellFormed th → (ws : List Written) (s : ℕ) → FitsWritten th ws s → AreNumbered th (numbered_entries th ws)
numbered_are th ok [] s f = tt
numbered_are th ok (w ∷ ws) s f =
    let d : Derivative = f.0 in
    let e = sym (derivative_is th w.derivative d f.1.listed) in
    let D : Derivative → Type 0 = λ y. slice_get th.derivatives w.derivative ≡ Some y in
    let I : Derivative → Type 0 = IsDerivative th.signature in
    (subst D e f.1.listed, subst I e (ok.derivatives d (contains_at th.derivatives w.derivative d f.1.listed)), numbered_are th ok ws (sort_of d.body) f.2)

-- what the whole comes to
abbrev IsAnswered : Theory → Proof → (units n : ℕ) → Goal → List Written → Type 0
IsAnswered th p k n g ws = Goes (λ xs. LeadsOnGoal th xs ws g) k (expansion k th p n ws)

pub expansion_goes : (th : Theory) → IsWellFormed th → (p : Proof) → ProofFor th p → IsPlain p → Accepted th p
    → (n : ℕ) (g : Goal) → slice_get (all_goals p.blocks) n ≡ Some g → (ws : List Written) → FitsWritten th ws (sort_of g.left) → (k : ℕ)
    → IsAnswered th p k n g ws
expansion_goes th ok p f pl a n g listed ws fw k =
    let F : Background = background_of th p in
    let fr = frame_holds th ok p f pl a.0 a.1 in
    let cs : List Numbered = numbered_entries th ws in
    let all = whole_blocks th ok p f pl a.0 a.1 in
    let h : Followed = followed_at (goals_of th p 0 [] p.blocks) n in
    let there = in_list (goals_of th p 0 [] p.blocks) n g (ap (λ gs. slice_get gs n) all.are ∙ listed) in
    let fo : IsFollowed F h = all.goals h there.0 in
    let sp = history_sorted (setting th p.places (followed_goals (block_hypotheses F h.block)) []) h.history fo in
    let q : Goal = goal_in h.history in
    let FG : Goal → Type 0 = λ y. Fits th (bare_entries cs) (sort_of y.left) in
    let fit : Fits th (bare_entries cs) (sort_of q.left) = subst FG (sym there.1) (written_fits th ws (sort_of g.left) fw) in
    let num = numbered_are th ok ws (sort_of g.left) fw in
    let s : Tree = on (bare_entries cs) q.left in
    let t : Tree = on (bare_entries cs) q.right in
    let FI : ℕ → Type 0 = Fits th (bare_entries cs) in
    let W : Pieces → Type 0 = λ xs. LeadsOnGoal th xs ws q in
    let L : Pieces → Type 0 = λ xs. PiecesLead th [] xs s t in
    let work : ℕ → Spending Pieces = uses k F (whole_call h cs) in
    let X : Goal → Type 0 = λ y. Goes (λ xs. LeadsOnGoal th xs ws y) k (expansion k th p n ws) in
    subst X there.1
    (goes_all_tested W k (stages (bare_entries cs) q.left ++ stages (bare_entries cs) q.right) (tested s (tested t (counted k work)))
    (goes_tested W k s (tested t (counted k work)) (λ ws_in.
    goes_tested W k t (counted k work) (λ wt_in.
    goes_counted W k work (λ j lt.
    let es : IsEnd th s = record { well_sorted = on_sorted th ok (bare_entries cs) q.left fit sp.left; within = ws_in } in
    let et : IsEnd th t = record { well_sorted = on_sorted th ok (bare_entries cs) q.right (subst FI (sym sp.same_sort) fit) sp.right; within = wt_in } in
    goes_so L W j (λ xs l. record { lead = l; derivable = expanded_derivable F fr s t es xs l }) (work j)
    (expanded_leads F fr h fo cs num fit es et k j lt))))))

-- what is given leads from the one side to the other
pub given_leads : (th : Theory) (p : Proof) (k n : ℕ) (g : Goal) (ws : List Written) → IsAnswered th p k n g ws → (m : ℕ) (xs : Pieces)
    → expansion k th p n ws ≡ Yields xs m → LeadsOnGoal th xs ws g
given_leads th p k n g ws a m xs e = let P : Spending Pieces → Type 0 = Goes (λ ys. LeadsOnGoal th ys ws g) k in (subst P e a).1

-- and it never stops
pub never_stops : (th : Theory) (p : Proof) (k n : ℕ) (g : Goal) (ws : List Written) → IsAnswered th p k n g ws → expansion k th p n ws ≡ Stopped → ⊥
never_stops th p k n g ws a e = let P : Spending Pieces → Type 0 = Goes (λ ys. LeadsOnGoal th ys ws g) k in subst P e a
