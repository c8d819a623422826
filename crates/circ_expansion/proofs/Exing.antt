-- Ex leads from one side of a goal to the other.
use Rattle.std.proofs.Common.{◌≡◌, ◌≤◌, ◌<◌, ℕ, List, [], ◌∷◌, ◌++◌, zero, suc, Bool, true, false, ◌==◌, if◌then◌else◌, map, Some, refl, ap, sym, ◌∙◌, subst, arith}
use Rattle.std.specs.List.{slice_get, filter}
use Rattle.std.proofs.lemmas.Bool.{eq-eqb}
use Rattle.std.proofs.lemmas.Option.{same_Some}
use Rattle.circ_term.specs.Tree.{Tree, sort_of, at}
use Rattle.circ_term.specs.Substitution.{Substitution, instance}
use Rattle.circ_theory.specs.Signature.{IsWellSorted}
use Rattle.circ_theory.specs.Theory.{Derivative, sides, IsHidden}
use Rattle.circ_theory.specs.Fresh.{fresh_in}
use Rattle.circ_theory.specs.Experiment.{Fits, derived, on}
use Rattle.circ_theory.specs.Goal.{Goal}
use Rattle.circ_theory.proofs.Derived.{derived_by}
use Rattle.circ_theory.proofs.Instances.{sort_of-instance_by}
use Rattle.circ_theory.proofs.Sorting.{at_sorted}
use Rattle.circ_proof.specs.Plain.{ChainOf}
use Rattle.circ_proof.specs.Link.{Setting}
use Rattle.circ_proof.specs.Rules.{derived_goal, derivatives_on}
use Rattle.circ_proof.proofs.Leading.{links_sorted}
use Rattle.circ_proof.proofs.Members.{nothing}
use Rattle.circ_entry.specs.Entries.{Numbered, bare_entries}
use Rattle.circ_expansion.specs.Followed.{History, Histories, Simplified, Reduced_by, Derived, Open, no_history, more_histories, goal_in, list_in, first_history}
use Rattle.circ_expansion.specs.Followed.{other_histories, put_or_same, led_all}
use Rattle.circ_expansion.specs.Pieces.{Pieces, pieces_joined, turned, PiecesLead}
use Rattle.circ_expansion.specs.Expand.{Spending, Yields, continued, counted, Background, Call, Expander, base, around, Basis, link_setting, links_written}
use Rattle.circ_expansion.specs.Expand.{extended, child, derive_call, simplified_call, basis_in, whys_written, ex, stood, trail}
use Rattle.circ_expansion.proofs.Going.{Goes, goes_on, goes_counted, goes_all_tested, goes_value}
use Rattle.circ_expansion.proofs.Derives.{joined_lead, pieces_turned}
use Rattle.circ_expansion.proofs.Lifting.{AreNumbered, extended_derived, extended_substitution}
use Rattle.circ_expansion.proofs.Led.{links_led}
use Rattle.circ_expansion.proofs.Standing.{block_hypotheses, setting_in, IsBare, IsHistory, AreHistories, IsBackground, IsEnd, Stands, IsCall, IsSound, end_of}
use Rattle.circ_expansion.proofs.Standing.{base_there, whole_self, whole_on, path_there, end_is}
use Rattle.circ_expansion.proofs.Linking.{Sided, basis_setting, links_lead}
use Rattle.circ_expansion.proofs.Whys.{IsFull, whys_lead}

-- ---- the child for a derivative

pub record ChildIs (c : Setting) (h : History) (p : Goal) : Type 0 where
  pub same : goal_in h ≡ p
  pub history : IsHistory c h

child_is : (c : Setting) (F : Derivative → Goal) (ds : List Derivative) (s : ℕ) (hs : Histories) (k : ℕ) (d : Derivative) → AreHistories c hs
    → map goal_in (list_in hs) ≡ map F (filter (λ e. e.hole == s) ds)
    → slice_get ds k ≡ Some d → d.hole ≡ s → ChildIs c (child ds s hs k) (F d)
child_is c F [] s hs k d a e g h = absurd (cc)
child_is c F (b ∷ ds) s hs zero d a e g h =
    go hs a (let same : b ≡ d = same_Some b d g in let x : (b.hole == s) ≡ true = eq-eqb b.hole s (ap (λ (y : Derivative). y.hole) same ∙ h) in rw x at e)
  where
    go : (hs : Histories) → AreHistories c hs → map goal_in (list_in hs) ≡ F b ∷ map F (filter (λ e. e.hole == s) ds) → ChildIs c (first_history hs) (F d)
    go no_history a e = absurd (cc)
    go (more_histories x xs) a e =
        let y : goal_in x ≡ F b = cc in
        record { same = y ∙ ap F (same_Some b d g); history = a.0 }
child_is c F (b ∷ ds) s hs (suc k) d a e g h = go (λ xs y z. child_is c F ds s xs k d y z g h) (b.hole == s) refl
  where
    step : (hs : Histories) → AreHistories c hs → map goal_in (list_in hs) ≡ F b ∷ map F (filter (λ e. e.hole == s) ds)
        → AreHistories c (other_histories hs) × (map goal_in (list_in (other_histories hs)) ≡ map F (filter (λ e. e.hole == s) ds))
    step no_history a e = absurd (cc)
    step (more_histories x xs) a e = (a.1, cc)

    go : ((xs : Histories) → AreHistories c xs → map goal_in (list_in xs) ≡ map F (filter (λ e. e.hole == s) ds) → ChildIs c (child ds s xs k) (F d))
        → (v : Bool) → (b.hole == s) ≡ v → ChildIs c (child ds s (if v then other_histories hs else hs) k) (F d)
    go ih true q = let r = step hs a (rw q at e) in ih (other_histories hs) r.0 r.1
    go ih false q = ih hs a (rw q at e)

-- ---- Ex

-- no assumption of the proof stands at the beginning of a goal's step
pub starts_full : (f : Background) → IsBackground f → (run : Expander) (c : Call) → IsFull f c (basis_in run f c)
starts_full f fr run c = record {
  basis = record { followed = fr.followed c.goal.block; sorted = λ p d. nothing p d; raised = λ n p e. absurd (cc) };
  whole = omega arith;
}

module _ (f : Background) (fr : IsBackground f) (run : Expander) (d : ℕ) (so : IsSound f d run) (c : Call) where
  pub derive_leads : (g : Goal) → IsBare (setting_in f (block_hypotheses f c.goal.block)) g → (children : Histories)
      → AreHistories (setting_in f (block_hypotheses f c.goal.block)) children
      → map goal_in (list_in children) ≡ derivatives_on f.theory g → (e : Numbered) (cs : List Numbered) → c.entries ≡ e ∷ cs
      → Stands f c (instance c.by g.left)
      → IsEnd f.theory c.whole → IsEnd f.theory (put_or_same c.whole c.path (on (bare_entries c.entries) (instance c.by g.right)))
      → (n : ℕ) → n < d
      → Goes (λ xs. PiecesLead f.theory c.assumptions xs c.whole (put_or_same c.whole c.path (on (bare_entries c.entries) (instance c.by g.right)))) n
      (run (derive_call run f c g children e cs) n)
  derive_leads g sg children ch goals e cs ee st el er n lt =
      let th = f.theory in
      let sig = th.signature in
      let dv : Derivative = e.entry.derivative in
      let q : Substitution = e.entry.parameters in
      let c1 : Call = derive_call run f c g children e cs in
      let N : List Numbered → Type 0 = AreNumbered th in
      let num : AreNumbered th (e ∷ cs) = subst N ee st.numbered in
      let s : Tree = instance c.by g.left in
      let t : Tree = instance c.by g.right in
      let FI : List Numbered → Type 0 = λ es. Fits th (bare_entries es) (sort_of s) in
      let fit : Fits th (bare_entries (e ∷ cs)) (sort_of s) = subst FI ee st.fits in
      let TH : List Numbered → Type 0 = λ es. at c.whole c.path ≡ Some (on (bare_entries es) s) in
      let there : at c.whole c.path ≡ Some (on (bare_entries (e ∷ cs)) s) = subst TH ee st.there in
      let ER : List Numbered → Type 0 = λ es. IsEnd th (put_or_same c.whole c.path (on (bare_entries es) t)) in
      let er1 : IsEnd th (put_or_same c.whole c.path (on (bare_entries (e ∷ cs)) t)) = subst ER ee er in
      let hole : dv.hole ≡ sort_of g.left = fit.1 ∙ sort_of-instance_by sig c.by g.left st.by sg.sorted.left in
      let k : ℕ = fresh_in g in
      let kid = child_is (setting_in f (block_hypotheses f c.goal.block)) (λ b. derived_goal b g k) th.derivatives
      (sort_of g.left) children e.number dv ch goals num.0 hole in
      let σ : Substitution = extended dv k c.by q in
      let left_is : instance σ (goal_in (child th.derivatives (sort_of g.left) children e.number)).left ≡ derived dv s q =
      ap (λ p. instance σ p.left) kid.same ∙ extended_derived sig dv num.1 k c.by q g.left (omega arith) in
      let right_is : instance σ (goal_in (child th.derivatives (sort_of g.left) children e.number)).right ≡ derived dv t q =
      ap (λ p. instance σ p.right) kid.same ∙ extended_derived sig dv num.1 k c.by q g.right (omega arith) in
      let end_same : end_of c1 ≡ put_or_same c.whole c.path (on (bare_entries (e ∷ cs)) t) =
      ap (λ y. put_or_same c.whole c.path (on (bare_entries cs) y)) right_is in
      let ws : IsWellSorted sig s = at_sorted th (base c) c.whole s el.well_sorted (base_there f c s st) in
      let body = derived_by sig dv s q num.1 (sym fit.1) ws fit.2 in
      let S : Tree → Type 0 = Stands f c1 in
      let FB : ℕ → Type 0 = Fits th (bare_entries cs) in
      let stands : Stands f c1 (derived dv s q) = record {
        by = extended_substitution sig dv k c.by q st.by fit.2;
        numbered = num.2;
        there = there;
        fits = subst FB (sym body.same_sort) fit.3;
        assumptions = st.assumptions;
      } in
      let E : Tree → Type 0 = IsEnd th in
      let call : IsCall f c1 = record {
        followed = kid.history;
        stands = subst S (sym left_is) stands;
        items = tt;
        left = el;
        right = subst E (sym end_same) er1;
      } in
      let L : Tree → Type 0 = λ y. Goes (λ xs. PiecesLead th c.assumptions xs c.whole y) n (run c1 n) in
      let back : put_or_same c.whole c.path (on (bare_entries (e ∷ cs)) t) ≡ put_or_same c.whole c.path (on (bare_entries c.entries) t) =
      ap (λ es. put_or_same c.whole c.path (on (bare_entries es) t)) (sym ee) in
      subst L (end_same ∙ back) (so c1 n lt call)

  simplified_leads : (p : Goal) (chain : ChainOf Tree) (h : History) → IsHistory (setting_in f (block_hypotheses f c.goal.block)) (Simplified p chain h)
      → Stands f c (instance c.by p.left) → IsEnd f.theory (around c p.left) → IsEnd f.theory (around c p.right)
      → (n : ℕ) → n ≤ d → Goes (λ xs. PiecesLead f.theory c.assumptions xs (around c p.left) (around c p.right)) n
      (ex run f c (Simplified p chain h) c.entries n)
  simplified_leads p chain h i st el er n le =
      let th = f.theory in
      let sig = th.signature in
      let b : Basis = basis_in run f c in
      let full = starts_full f fr run c in
      let S = link_setting f b in
      let s = p.left in
      let t = p.right in
      let q : Goal = goal_in h in
      let inner : Tree → Call = λ y. simplified_call run f c y h in
      let sl : Tree = led_all S chain.left s in
      let last : Pieces → Pieces → Pieces → ℕ → Spending Pieces = λ l r ys y. Yields (pieces_joined l (pieces_joined ys (turned r))) y in
      let rest : Tree → Pieces → Pieces → ℕ → Spending Pieces = λ z l r j. counted j (λ y. continued (run (inner z) y) (last l r)) in
      let se_r : sort_of (instance c.by t) ≡ sort_of (instance c.by s) =
      sort_of-instance_by sig c.by t st.by i.0.sorted.right ∙ i.0.sorted.same_sort ∙ sym (sort_of-instance_by sig c.by s st.by i.0.sorted.left) in
      let kl = links_sorted S (basis_setting f fr c b full.basis) chain.left i.1.0.0 s q.left i.0.sorted.left i.2.left in
      let sort_y : sort_of (instance c.by q.left) ≡ sort_of (instance c.by s) =
      sort_of-instance_by sig c.by q.left st.by kl.well_sorted ∙ kl.same_sort ∙ sym (sort_of-instance_by sig c.by s st.by i.0.sorted.left) in
      let end_same : end_of (inner q.left) ≡ around c q.right = end_is f c (instance c.by s) st (instance c.by q.left) (instance c.by q.right) in
      let FB : ℕ → Type 0 = Fits th (bare_entries c.entries) in
      let E : Tree → Type 0 = IsEnd th in
      let P : Pieces → Type 0 = λ xs. PiecesLead th c.assumptions xs (around c s) (around c t) in
      let SL : Pieces → Type 0 = Sided f c (instance c.by s) (instance c.by q.left) in
      let SR : Pieces → Type 0 = Sided f c (instance c.by t) (instance c.by q.right) in
      let M : Tree → Pieces → Type 0 = λ y ys. PiecesLead th c.assumptions ys (around c q.left) y in
      let both : Pieces → ℕ → Spending Pieces = λ l k. continued (links_written run f c b chain.right t k) (λ r j. rest sl l r j) in
      goes_all_tested P n (trail S chain.left s) (continued (links_written run f c b chain.left s n) both)
      (goes_on SL P n (links_written run f c b chain.left s n) both
      (links_lead f fr run d so c (instance c.by s) st b full.basis chain.left i.1.0.0 i.1.1.0 s q.left i.0.sorted.left i.2.left el refl n le)
      (λ l k lk gl. goes_on SR P k (links_written run f c b chain.right t k) (λ r j. rest sl l r j)
      (links_lead f fr run d so c (instance c.by s) st b full.basis chain.right i.1.0.1 i.1.1.1 t q.right i.0.sorted.right i.2.right er se_r k
      (omega (arith, lk, le)))
      (λ r j lj gr.
      let G : Tree → Type 0 = λ z. Goes P j (rest z l r j) in
      let call : IsCall f (inner q.left) = record {
        followed = i.3;
        stands = record {
          by = st.by;
          numbered = st.numbered;
          there = path_there f c (instance c.by s) st (instance c.by q.left);
          fits = subst FB (sym sort_y) st.fits;
          assumptions = st.assumptions;
        };
        items = tt;
        left = gl.end;
        right = subst E (sym end_same) gr.end;
      } in
      let back = pieces_turned th fr.well_formed c.assumptions r (around c t) (around c q.right) gr.lead er.within in
      subst G (sym (links_led S chain.left s q.left i.2.left))
      (goes_counted P j (λ y. continued (run (inner q.left) y) (last l r)) (λ y lt.
      let W : Tree → Type 0 = λ z. Goes (M z) y (run (inner q.left) y) in
      goes_on (M (around c q.right)) P y (run (inner q.left) y) (last l r)
      (subst W end_same (so (inner q.left) y (omega (arith, lt, lj, lk, le)) call))
      (λ ys z lz mid. goes_value P z (pieces_joined l (pieces_joined ys (turned r)))
      (joined_lead th c.assumptions l (pieces_joined ys (turned r)) (around c s) (around c q.left) (around c t) gl.lead
      (joined_lead th c.assumptions ys (turned r) (around c q.left) (around c q.right) (around c t) mid back))))))))

  pub ex_leads : (h : History) → IsHistory (setting_in f (block_hypotheses f c.goal.block)) h → (es : List Numbered) → c.entries ≡ es
      → Stands f c (instance c.by (goal_in h).left)
      → IsEnd f.theory c.whole → IsEnd f.theory (around c (goal_in h).right)
      → (n : ℕ) → n ≤ d → Goes (λ xs. PiecesLead f.theory c.assumptions xs c.whole (around c (goal_in h).right)) n (ex run f c h es n)
  ex_leads Open i es ee st el er n le = absurd i
  ex_leads (Reduced_by p why) i es ee st el er n le =
      let self = whole_self f c (instance c.by p.left) st in
      let E : Tree → Type 0 = IsEnd f.theory in
      let L : Tree → Type 0 = λ y. Goes (λ xs. PiecesLead f.theory c.assumptions xs y (around c p.right)) n
      (whys_written run f c (basis_in run f c) why p.left p.right n) in
      subst L self
      (whys_lead f fr run d so c (instance c.by p.left) st (basis_in run f c) (starts_full f fr run c) (sides p) i.0.sorted why i.1.0 i.1.1 i.2
      (subst E (sym self) el) er refl n le)
  ex_leads (Simplified p chain h) i es ee st el er n le =
      let self = whole_self f c (instance c.by p.left) st in
      let E : Tree → Type 0 = IsEnd f.theory in
      let L : Tree → Type 0 = λ y. Goes (λ xs. PiecesLead f.theory c.assumptions xs y (around c p.right)) n (ex run f c (Simplified p chain h) c.entries n) in
      subst L self (simplified_leads p chain h i st (subst E (sym self) el) er n le)
  ex_leads (Derived p children) i [] ee st el er n le =
      let sig = f.theory.signature in
      let F : List Numbered → Type 0 = λ es. Fits f.theory (bare_entries es) (sort_of (instance c.by p.left)) in
      let H : ℕ → Type 0 = IsHidden f.theory in
      absurd (subst F ee st.fits (subst H (sym (sort_of-instance_by sig c.by p.left st.by i.0.sorted.left)) i.1))
  ex_leads (Derived p children) i (e ∷ cs) ee st el er n le =
      let E : Tree → Type 0 = IsEnd f.theory in
      let on_is = whole_on f c (instance c.by p.left) st (instance c.by p.right) in
      let call : Call = derive_call run f c p children e cs in
      let Q : Tree → Pieces → Type 0 = λ y xs. PiecesLead f.theory c.assumptions xs c.whole y in
      let there : Tree = put_or_same c.whole c.path (on (bare_entries c.entries) (instance c.by p.right)) in
      let L : Tree → Type 0 = λ y. Goes (Q y) n (counted n (run call)) in
      subst L (sym on_is)
      (goes_counted (Q there) n (run call) (λ k lt. derive_leads p i.0 children i.3 i.2 e cs ee st el (subst E on_is er) k (omega (arith, lt, le))))
