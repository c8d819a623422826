-- What justifies a goal leads from one side to the other, in each case.
use Rattle.std.proofs.Common.{◌≡◌, ◌≤◌, ◌⊎◌, ℕ, ◌+◌, List, [], ◌∷◌, ◌++◌, zero, suc, length, Some, refl, ap, sym, ◌∙◌, subst, arith, inl, inr}
use Rattle.std.specs.List.{slice_get, Contains}
use Rattle.std.proofs.lemmas.Option.{same_Some}
use Rattle.circ_term.specs.Tree.{Tree, sort_of}
use Rattle.circ_term.specs.Substitution.{Substitution, instance}
use Rattle.circ_theory.specs.Signature.{IsWellSorted}
use Rattle.circ_theory.specs.Theory.{Pair, instance_pair, CaseList, IsWellSortedPair}
use Rattle.circ_theory.specs.Derivable.{is_case}
use Rattle.circ_theory.specs.Experiment.{Fits}
use Rattle.circ_theory.proofs.Casing.{contains_first}
use Rattle.circ_theory.proofs.Instances.{sort_of-instance_by, instance_well_sorted}
use Rattle.circ_theory.proofs.Weakening.{in_rest}
use Rattle.circ_proof.specs.Plain.{WhyOf, WhysOf, Same_why, Split_why, no_why, more_whys}
use Rattle.circ_proof.specs.Justified.{Justified, EachJustified, AllOfWhy, AllOfWhys}
use Rattle.circ_proof.proofs.Leading.{chain_sorted, links_sorted}
use Rattle.circ_entry.specs.Entries.{bare_entries}
use Rattle.circ_expansion.specs.Followed.{led_all}
use Rattle.circ_expansion.specs.Pieces.{Pieces, Parts, Cases_piece, more_pieces, no_part, more_parts, pieces_joined, turned, PiecesLead, PartsLead}
use Rattle.circ_expansion.specs.Expand.{Spending, Yields, continued, counted, tested, Background, Call, Expander, base, around, Basis, link_setting}
use Rattle.circ_expansion.specs.Expand.{links_written, cases_at, case_basis, case_call, whys_written, each_why, stood, trail}
use Rattle.circ_expansion.proofs.Going.{Goes, goes_on, goes_counted, goes_tested, goes_all_tested, goes_value}
use Rattle.circ_expansion.proofs.Putting.{put_is}
use Rattle.circ_proof.proofs.Cases.{case_sorted}
use Rattle.circ_expansion.proofs.Plainness.{IsBareWhy, AreBareWhys}
use Rattle.circ_expansion.proofs.Derives.{more_sorted, joined_lead, pieces_turned}
use Rattle.circ_expansion.proofs.Led.{links_led}
use Rattle.circ_expansion.proofs.Standing.{IsBackground, IsEnd, Stands, IsSound, whole_over, path_there}
use Rattle.circ_expansion.proofs.Linking.{Sided, IsBasis, basis_setting, links_lead}

get_left : {X : Type 0} (xs ys : List X) (n : ℕ) (y : X) → slice_get xs n ≡ Some y → slice_get (xs ++ ys) n ≡ Some y
get_left [] ys n y e = absurd (cc)
get_left (x ∷ xs) ys zero y e = e
get_left (x ∷ xs) ys (suc n) y e = get_left xs ys n y e

get_end : {X : Type 0} (xs : List X) (x : X) → slice_get (xs ++ x ∷ []) (length xs) ≡ Some x
get_end [] x = refl
get_end (z ∷ xs) x = get_end xs x

get_last : {X : Type 0} (xs : List X) (x y : X) (n : ℕ) → slice_get (xs ++ x ∷ []) n ≡ Some y → (slice_get xs n ≡ Some y) ⊎ ((n ≡ length xs) × (x ≡ y))
get_last [] x y zero e = inr (refl, same_Some x y e)
get_last [] x y (suc n) e = absurd (cc)
get_last (z ∷ xs) x y zero e = inl e
get_last (z ∷ xs) x y (suc n) e = go (get_last xs x y n e)
  where
    go : (slice_get xs n ≡ Some y) ⊎ ((n ≡ length xs) × (x ≡ y)) → (slice_get xs n ≡ Some y) ⊎ ((suc n ≡ suc (length xs)) × (x ≡ y))
    go (inl h) = inl h
    go (inr h) = inr (ap suc h.0, h.1)

length_last : {X : Type 0} (xs : List X) (x : X) → length (xs ++ x ∷ []) ≡ suc (length xs)
length_last [] x = refl
length_last (z ∷ xs) x = ap suc (length_last xs x)

-- one case more on both sides
raised_more : (σ : Substitution) (A B : List Pair) (a : ℕ) (p : Pair)
    → ((n : ℕ) (q : Pair) → slice_get A n ≡ Some q → slice_get B (a + n) ≡ Some (instance_pair σ q)) → length B ≡ a + length A
    → (n : ℕ) (q : Pair) → slice_get (A ++ p ∷ []) n ≡ Some q → slice_get (B ++ instance_pair σ p ∷ []) (a + n) ≡ Some (instance_pair σ q)
raised_more σ A B a p ra l n q e = go (get_last A p q n e)
  where
    go : (slice_get A n ≡ Some q) ⊎ ((n ≡ length A) × (p ≡ q)) → slice_get (B ++ instance_pair σ p ∷ []) (a + n) ≡ Some (instance_pair σ q)
    go (inl h) = get_left B (instance_pair σ p ∷ []) (a + n) (instance_pair σ q) (ra n q h)
    go (inr h) =
        let at_end : a + n ≡ length B = ap (λ k. a + k) h.0 ∙ sym l in
        ap (slice_get (B ++ instance_pair σ p ∷ [])) at_end ∙ get_end B (instance_pair σ p) ∙ ap (λ r. Some (instance_pair σ r)) h.1

-- ---- a case

case_whole : (f : Background) (run : Expander) (c : Call) (x : Tree) → Stands f c x → (s : Tree) (p : Pair) (y : Tree)
    → around (case_call run f c s p) y ≡ around c y
case_whole f run c x st s p y = put_is (base c) (around c s) (instance c.by y) (around c y) (whole_over f c x st (instance c.by s) (instance c.by y))

case_stands : (f : Background) (run : Expander) (c : Call) (x : Tree) → Stands f c x → (s : Tree) (p : Pair) → sort_of (instance c.by s) ≡ sort_of x
    → IsWellSortedPair f.theory.signature p
    → Stands f (case_call run f c s p) (instance c.by s)
case_stands f run c x st s p e w = record {
  by = st.by;
  numbered = st.numbered;
  there = path_there f c x st (instance c.by s);
  fits = let F : ℕ → Type 0 = Fits f.theory (bare_entries c.entries) in subst F (sym e) st.fits;
  assumptions = more_sorted f.theory c.assumptions p st.assumptions w;
}

-- the case of the proof's own term, and of the tree's
case_is : (σ : Substitution) (v : Tree) (l : CaseList) (k : ℕ) → instance_pair σ (is_case v l k) ≡ is_case (instance σ v) l k
case_is σ v l k = refl

-- what is known of the numbers of assumptions
pub record IsFull (f : Background) (c : Call) (b : Basis) : Type 0 where
  pub basis : IsBasis f c b
  pub whole : length c.assumptions ≡ b.raised + length b.assumptions

case_full : (f : Background) (run : Expander) (c : Call) (b : Basis) → IsFull f c b → (s v : Tree) (l : CaseList) (k : ℕ)
    → IsWellSortedPair f.theory.signature (is_case v l k)
    → IsFull f (case_call run f c s (is_case (instance c.by v) l k)) (case_basis run f b (is_case v l k))
case_full f run c b i s v l k w =
    let p : Pair = is_case v l k in
    let e : Pair = is_case (instance c.by v) l k in
    record {
      basis = record {
        followed = i.basis.followed;
        sorted = more_sorted f.theory b.assumptions p i.basis.sorted w;
        raised = raised_more c.by b.assumptions c.assumptions b.raised p i.basis.raised i.whole;
      };
      whole = length_last c.assumptions e ∙ ap suc i.whole
          ∙ (let z : suc (b.raised + length b.assumptions) ≡ b.raised + suc (length b.assumptions) = omega arith in z)
          ∙ ap (λ j. b.raised + j) (sym (length_last b.assumptions p));
    }

-- what is written for a reason leads from the one side to the other
abbrev pub WhyLeads : Background → Call → Pair → Pieces → Type 0
WhyLeads f c p xs = PiecesLead f.theory c.assumptions xs (around c p.left) (around c p.right)

module _ (f : Background) (fr : IsBackground f) (run : Expander) (d : ℕ) (so : IsSound f d run) where
  -- the right side's instance has the sort of the left one's
  sort_right : (c : Call) (x : Tree) → Stands f c x → (p : Pair) → IsWellSortedPair f.theory.signature p → sort_of (instance c.by p.left) ≡ sort_of x
      → sort_of (instance c.by p.right) ≡ sort_of x
  sort_right c x st p sp se =
      let sig = f.theory.signature in
      sort_of-instance_by sig c.by p.right st.by sp.right ∙ sp.same_sort ∙ sym (sort_of-instance_by sig c.by p.left st.by sp.left) ∙ se

  mutual
    pub whys_lead : (c : Call) (x : Tree) → Stands f c x → (b : Basis) → IsFull f c b → (p : Pair) → IsWellSortedPair f.theory.signature p → (w : WhyOf Tree)
        → AllOfWhy (IsWellSorted f.theory.signature) w → IsBareWhy w → Justified (link_setting f b) p w
        → IsEnd f.theory (around c p.left) → IsEnd f.theory (around c p.right) → sort_of (instance c.by p.left) ≡ sort_of x
        → (n : ℕ) → n ≤ d → Goes (WhyLeads f c p) n (whys_written run f c b w p.left p.right n)
    whys_lead c x st b i p sp (Same_why chain) a bw j el er se n le =
        let th = f.theory in
        let s = p.left in
        let t = p.right in
        let P : Pieces → Type 0 = WhyLeads f c p in
        let SL : Pieces → Type 0 = Sided f c (instance c.by s) (instance c.by j.0) in
        let SR : Pieces → Type 0 = Sided f c (instance c.by t) (instance c.by j.0) in
        goes_on SL P n (links_written run f c b chain.left s n)
        (λ l k. continued (links_written run f c b chain.right t k) (λ r h. Yields (pieces_joined l (turned r)) h))
        (links_lead f fr run d so c x st b i.basis chain.left a.0 bw.0 s j.0 sp.left j.1.left el se n le)
        (λ l k lk gl. goes_on SR P k (links_written run f c b chain.right t k) (λ r h. Yields (pieces_joined l (turned r)) h)
        (links_lead f fr run d so c x st b i.basis chain.right a.1 bw.1 t j.0 sp.right j.1.right er (sort_right c x st p sp se) k (omega (arith, lk, le)))
        (λ r h lh gr. goes_value P h (pieces_joined l (turned r))
        (joined_lead th c.assumptions l (turned r) (around c s) (around c j.0) (around c t) gl.lead
        (pieces_turned th fr.well_formed c.assumptions r (around c t) (around c j.0) gr.lead er.within))))
    whys_lead c x st b i p sp (Split_why chain v ws) a bw j el er se n le =
        let th = f.theory in
        let sig = th.signature in
        let S = link_setting f b in
        let s = p.left in
        let t = p.right in
        let q : Pair = j.0 in
        let cl : CaseList = j.2 in
        let wv = a.1 in
        let u : Tree = instance c.by v in
        let wu = instance_well_sorted sig c.by v st.by wv in
        let su : sort_of u ≡ cl.sort = sort_of-instance_by sig c.by v st.by wv ∙ j.4 in
        let cases : CaseList = cases_at run f (sort_of v) in
        let P : Pieces → Type 0 = WhyLeads f c p in
        let SL : Pieces → Type 0 = Sided f c (instance c.by s) (instance c.by q.left) in
        let SR : Pieces → Type 0 = Sided f c (instance c.by t) (instance c.by q.right) in
        let PP : Parts → Type 0 = λ ps. PartsLead th c.assumptions u cl cl.constants ps (around c q.left) (around c q.right) in
        let each : CaseList → Tree → Tree → ℕ → Spending Parts = λ k y z h. each_why run f c b ws v k k.constants y z h in
        let last : Pieces → Pieces → Parts → ℕ → Spending Pieces = λ l r ps e. Yields (pieces_joined l (more_pieces (Cases_piece u ps) (turned r))) e in
        let split : CaseList → Tree → Tree → Pieces → Pieces → ℕ → Spending Pieces =
        λ k y z l r h. counted h (λ e. tested u (continued (each k y z e) (last l r))) in
        let list_is : cases ≡ cl = fr.one_list cl j.3 (sort_of v) j.4 in
        let sl : Tree = led_all S chain.left s in
        let sr : Tree = led_all S chain.right t in
        let left_is : sl ≡ q.left = links_led S chain.left s q.left j.1.left in
        let right_is : sr ≡ q.right = links_led S chain.right t q.right j.1.right in
        let good = basis_setting f fr c b i.basis in
        let sq = chain_sorted S good chain a.0 p q sp j.1 in
        let kl = links_sorted S good chain.left a.0.0 s q.left sp.left j.1.left in
        let sort_y : sort_of (instance c.by q.left) ≡ sort_of x =
        sort_of-instance_by sig c.by q.left st.by kl.well_sorted ∙ kl.same_sort ∙ sym (sort_of-instance_by sig c.by s st.by sp.left) ∙ se in
        let both : Pieces → ℕ → Spending Pieces = λ l k. continued (links_written run f c b chain.right t k) (λ r h. split cases sl sr l r h) in
        goes_all_tested P n (trail S chain.left s ++ trail S chain.right t) (continued (links_written run f c b chain.left s n) both)
        (goes_on SL P n (links_written run f c b chain.left s n) both
        (links_lead f fr run d so c x st b i.basis chain.left a.0.0 bw.0.0 s q.left sp.left j.1.left el se n le)
        (λ l k lk gl. goes_on SR P k (links_written run f c b chain.right t k) (λ r h. split cases sl sr l r h)
        (links_lead f fr run d so c x st b i.basis chain.right a.0.1 bw.0.1 t q.right sp.right j.1.right er (sort_right c x st p sp se) k
        (omega (arith, lk, le)))
        (λ r h lh gr.
        let G1 : CaseList → Type 0 = λ y. Goes P h (split y q.left q.right l r h) in
        let G2 : Tree → Type 0 = λ y. Goes P h (split cases y q.right l r h) in
        let G3 : Tree → Type 0 = λ y. Goes P h (split cases sl y l r h) in
        subst G3 (sym right_is) (subst G2 (sym left_is) (subst G1 (sym list_is)
        (goes_counted P h (λ e. tested u (continued (each cl q.left q.right e) (last l r))) (λ e lt.
        goes_tested P e u (continued (each cl q.left q.right e) (last l r)) (λ w.
        goes_on PP P e (each cl q.left q.right e) (last l r)
        (each_leads c x st b i q sq v cl j.3 wv j.4 wu su cl.constants (λ k z. z) ws a.2 bw.1 j.5 gl.end gr.end sort_y e (omega (arith, lt, lh, lk, le)))
        (λ ps y ly parts. goes_value P y (pieces_joined l (more_pieces (Cases_piece u ps) (turned r)))
        (joined_lead th c.assumptions l (more_pieces (Cases_piece u ps) (turned r)) (around c s) (around c q.left) (around c t) gl.lead (
          around c q.right,
          (cl, j.3, wu, su, parts),
          pieces_turned th fr.well_formed c.assumptions r (around c t)
              (around c q.right) gr.lead er.within,
        )))))))))))

    each_leads : (c : Call) (x : Tree) → Stands f c x → (b : Basis) → IsFull f c b → (q : Pair) → IsWellSortedPair f.theory.signature q
        → (v : Tree) (l : CaseList) → Contains f.theory.cases l → IsWellSorted f.theory.signature v → sort_of v ≡ l.sort
        → IsWellSorted f.theory.signature (instance c.by v) → sort_of (instance c.by v) ≡ l.sort
        → (ks : List ℕ) → ((k : ℕ) → Contains ks k → Contains l.constants k) → (ws : WhysOf Tree) → AllOfWhys (IsWellSorted f.theory.signature) ws
        → AreBareWhys ws → EachJustified (link_setting f b) q v l ks ws
        → IsEnd f.theory (around c q.left) → IsEnd f.theory (around c q.right) → sort_of (instance c.by q.left) ≡ sort_of x
        → (n : ℕ) → n ≤ d → Goes (λ ps. PartsLead f.theory c.assumptions (instance c.by v) l ks ps (around c q.left) (around c q.right)) n
        (each_why run f c b ws v l ks q.left q.right n)
    each_leads c x st b i q sq v l cl wv sv wu su [] wi no_why a bw j el er se n le =
        goes_value (λ ps. PartsLead f.theory c.assumptions (instance c.by v) l [] ps (around c q.left) (around c q.right)) n no_part tt
    each_leads c x st b i q sq v l cl wv sv wu su [] wi (more_whys w ws) a bw j el er se n le = absurd j
    each_leads c x st b i q sq v l cl wv sv wu su (k ∷ ks) wi no_why a bw j el er se n le = absurd j
    each_leads c x st b i q sq v l cl wv sv wu su (k ∷ ks) wi (more_whys w ws) a bw j el er se n le =
        let th = f.theory in
        let u = instance c.by v in
        let s = q.left in
        let t = q.right in
        let e : Pair = is_case u l k in
        let c1 : Call = case_call run f c s e in
        let b1 : Basis = case_basis run f b (is_case v l k) in
        let ck = wi k (contains_first k ks) in
        let we = case_sorted th fr.well_formed u l k cl ck wu su in
        let wp = case_sorted th fr.well_formed v l k cl ck wv sv in
        let st1 = case_stands f run c x st s e se we in
        let E : Tree → Type 0 = IsEnd th in
        let ws_s = case_whole f run c x st s e s in
        let ws_t = case_whole f run c x st s e t in
        let Q1 : Pieces → Type 0 = WhyLeads f c1 q in
        let Q2 : Parts → Type 0 = λ ps. PartsLead th c.assumptions u l ks ps (around c s) (around c t) in
        let P : Parts → Type 0 = λ ps. PartsLead th c.assumptions u l (k ∷ ks) ps (around c s) (around c t) in
        let others : Pieces → ℕ → Spending Parts = λ p m. continued (each_why run f c b ws v l ks s t m) (λ ps y. Yields (more_parts p ps) y) in
        goes_all_tested P n (u ∷ stood c s) (continued (whys_written run f c1 b1 w s t n) others)
        (goes_on Q1 P n (whys_written run f c1 b1 w s t n) others
        (whys_lead c1 (instance c.by s) st1 b1 (case_full f run c b i s v l k wp) q sq w a.0 bw.0 j.0 (subst E (sym ws_s) el)
        (subst E (sym ws_t) er) refl n le)
        (λ p m lm one. goes_on Q2 P m (each_why run f c b ws v l ks s t m) (λ ps y. Yields (more_parts p ps) y)
        (each_leads c x st b i q sq v l cl wv sv wu su ks (λ y z. wi y (in_rest k y ks z)) ws a.1 bw.1 j.1 el er se m (omega (arith, lm, le)))
        (λ ps y ly rest.
        let L : Tree → Type 0 = λ z. PiecesLead th (c.assumptions ++ e ∷ []) p z (around c1 t) in
        let R : Tree → Type 0 = λ z. PiecesLead th (c.assumptions ++ e ∷ []) p (around c s) z in
        goes_value P y (more_parts p ps) (subst R ws_t (subst L ws_s one), rest))))
