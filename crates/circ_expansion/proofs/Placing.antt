-- A use of Ly that begins with a place leads to its end: by the place's certificate on the one term, its occurrences one by one, and the certificate back on
-- the other.
use Rattle.std.proofs.Common.{◌≡◌, ◌≤◌, ℕ, List, [], ◌∷◌, ◌++◌, Option, Some, unwrap_or, refl, ap, sym, ◌∙◌, subst, true, length, arith}
use Rattle.std.specs.List.{slice_get, Contains}
use Rattle.std.specs.Option.{option_map_or}
use Rattle.std.proofs.lemmas.Bool.{lt-ltb}
use Rattle.std.proofs.lemmas.Option.{same_Some}
use Rattle.circ_term.specs.Tree.{Tree, Trees, Var, App, sort_of, list_of, at, replaced, put_at}
use Rattle.circ_term.specs.Substitution.{Substitution, instance}
use Rattle.circ_term.proofs.Paths.{at-append, at_replaced, replaced_twice}
use Rattle.circ_theory.specs.Signature.{Signature, Operator, IsSort, IsWellSorted, HaveSorts, IsSubstitution}
use Rattle.circ_theory.specs.Theory.{Theory, Derivative, IsHidden}
use Rattle.circ_theory.specs.WellFormed.{IsWellFormed, IsDerivative}
use Rattle.circ_theory.specs.Experiment.{Fits, derived, on}
use Rattle.circ_theory.specs.Fresh.{numbered_from}
use Rattle.circ_theory.proofs.Derived.{derived_by}
use Rattle.circ_theory.proofs.Instances.{sort_of-instance_by}
use Rattle.circ_theory.proofs.Rewriting.{contains_at}
use Rattle.circ_theory.proofs.Sorting.{at_sorted}
use Rattle.circ_match.specs.Matcher.{has_variable}
use Rattle.circ_rewrite.specs.Matching.{matching}
use Rattle.circ_rewrite.proofs.RuleTerms.{has_variable-occurrences}
use Rattle.circ_special.specs.Special.{place, IsPlace}
use Rattle.circ_special.specs.Guarded.{Guarded}
use Rattle.circ_proof.specs.Plain.{LinkOf}
use Rattle.circ_proof.specs.Runs.{Runs}
use Rattle.circ_proof.specs.Link.{Leads, AllOfLinks}
use Rattle.circ_proof.specs.Certified.{start_args, start_term}
use Rattle.circ_proof.proofs.Leading.{links_sorted}
use Rattle.circ_soundness.proofs.Changing.{DifferAt, stands_at}
use Rattle.circ_proof.proofs.Members.{nothing, all_of}
use Rattle.circ_soundness.proofs.Placing.{start_sorted}
use Rattle.circ_soundness.proofs.Starting.{starts, arg_sort, start_place}
use Rattle.circ_entry.specs.Entries.{Numbered, bare_entries}
use Rattle.circ_expansion.specs.Followed.{put_or_same, led_all}
use Rattle.circ_expansion.specs.Pieces.{Pieces, pieces_joined, turned, PiecesLead}
use Rattle.circ_expansion.specs.Expand.{Spending, Yields, continued, Layer, At_place, Background, Call, Expander, base, whole_with, Basis}
use Rattle.circ_expansion.specs.Expand.{basis, link_setting, links_written, paths_of, holes, hole_path}
use Rattle.circ_expansion.specs.Expand.{start_at, certified_call, no_basis, left_here, right_here, occurrences_written, place_terms, through_place}
use Rattle.circ_expansion.specs.Expand as expand
use Rattle.circ_expansion.proofs.Going.{Goes, goes_on, goes_all_tested, goes_value}
use Rattle.circ_expansion.proofs.Putting.{put_there}
use Rattle.circ_expansion.proofs.Derives.{joined_lead, pieces_turned}
use Rattle.circ_expansion.proofs.Lifting.{AreNumbered, on_there, derived_there}
use Rattle.circ_expansion.proofs.Plainness.{AreBare}
use Rattle.circ_expansion.proofs.Led.{links_led}
use Rattle.circ_expansion.proofs.Matched.{masked, masked_keeps, masked_sorted, masked_same, masked_differ, matching_is, matching_makes, matching_sorted}
use Rattle.circ_expansion.proofs.Matched.{matching_differ}
use Rattle.circ_expansion.proofs.Moving.{moved}
use Rattle.circ_expansion.proofs.Standing.{IsBackground, end_of, IsEnd, Stands, IsCall, IsSound, base_there, whole_self, whole_on}
use Rattle.circ_expansion.proofs.Linking.{Sided, IsBasis, basis_setting, links_lead}
use Rattle.circ_expansion.proofs.Turning.{occurrences_lead}

-- the arguments with this one at the place
arg_put : (g s i : ℕ) (ts : Trees) (a x : Tree) → slice_get (list_of ts) i ≡ Some a → slice_get (list_of (put_at ts i x)) i ≡ Some x
arg_put g s i ts a x e = at_replaced (i ∷ []) (App g s ts) x (App g s (put_at ts i x)) (rw e refl)

args_again : (g s i : ℕ) (ts : Trees) (a x y : Tree) → slice_get (list_of ts) i ≡ Some a → App g s (put_at (put_at ts i x) i y) ≡ App g s (put_at ts i y)
args_again g s i ts a x y e =
    let first : replaced (App g s ts) (i ∷ []) x ≡ Some (App g s (put_at ts i x)) = rw e refl in
    let there = arg_put g s i ts a x e in
    let z : replaced (App g s (put_at ts i x)) (i ∷ []) y ≡ Some (App g s (put_at (put_at ts i x) i y)) = rw there refl in
    let w : replaced (App g s ts) (i ∷ []) y ≡ Some (App g s (put_at ts i y)) = rw e refl in
    same_Some (App g s (put_at (put_at ts i x) i y)) (App g s (put_at ts i y)) (sym z
    ∙ replaced_twice (i ∷ []) (App g s ts) x (App g s (put_at ts i x)) y first ∙ w)

-- variable 0 stands in the start term
start_variable : (sig : Signature) (o : Operator) (g i : ℕ) (d : Derivative) → IsDerivative sig d → (s : ℕ) → slice_get o.args i ≡ Some s
    → has_variable (start_term o (place g i) d) 0 s ≡ true
start_variable sig o g i d der s e =
    let vs : Trees = start_args i 1 o.args in
    let head : Tree = App g o.result vs in
    let start : Tree = start_term o (place g i) d in
    let there : at start (hole_path d ++ i ∷ []) ≡ Some (Var 0 s) =
    at-append start head (hole_path d) (i ∷ []) (derived_there sig d der head (numbered_from _)) ∙ start_place i 1 o.args s e in
    has_variable-occurrences start 0 s ∙ stands_at 0 s (hole_path d ++ i ∷ []) start there

-- The two substitutions of a certificate: what matching gives for the derivative on the one term and on the other.
record Matched (th : Theory) (start a b x y : Tree) (s : ℕ) : Type 0 where
  left : IsSubstitution th.signature (matching start x)
  right : IsSubstitution th.signature (matching start y)
  left_made : instance (matching start x) start ≡ x
  right_made : instance (matching start y) start ≡ y
  left_here : matching start x 0 s ≡ a
  right_here : matching start y 0 s ≡ b
  differ : DifferAt 0 s (matching start x) (matching start y)

matched : (th : Theory) (start a b x y : Tree) (s : ℕ) (σ τ : Substitution) → IsSubstitution th.signature σ → IsSubstitution th.signature τ
    → IsSort th.signature s → IsWellSorted th.signature start
    → IsWellSorted th.signature x → IsWellSorted th.signature y → has_variable start 0 s ≡ true → instance σ start ≡ x → instance τ start ≡ y → σ 0 s ≡ a
    → τ 0 s ≡ b → DifferAt 0 s σ τ → Matched th start a b x y s
matched th start a b x y s σ τ iσ iτ hs w wx wy v ex ey ea eb d =
    let sig = th.signature in
    let σ1 = masked sig σ in
    let τ1 = masked sig τ in
    let kσ = masked_keeps sig σ iσ in
    let kτ = masked_keeps sig τ iτ in
    let is_x : instance σ1 start ≡ x = masked_same sig σ start w ∙ ex in
    let is_y : instance τ1 start ≡ y = masked_same sig τ start w ∙ ey in
    let S : Tree → Type 0 = λ z. IsSubstitution sig (matching start z) in
    let M : Tree → Type 0 = λ z. instance (matching start z) start ≡ z in
    let H : Substitution → Tree → Type 0 = λ ρ z. matching start z 0 s ≡ ρ 0 s in
    let HX : Tree → Type 0 = H σ1 in
    let HY : Tree → Type 0 = H τ1 in
    let DX : Tree → Type 0 = λ z. DifferAt 0 s (matching start z) (matching start (instance τ1 start)) in
    let DY : Tree → Type 0 = λ z. DifferAt 0 s (matching start x) (matching start z) in
    record {
      left = subst S is_x (matching_sorted sig σ1 kσ (masked_sorted sig σ iσ) start);
      right = subst S is_y (matching_sorted sig τ1 kτ (masked_sorted sig τ iτ) start);
      left_made = subst M is_x (matching_makes σ1 kσ start);
      right_made = subst M is_y (matching_makes τ1 kτ start);
      left_here = subst HX is_x (matching_is σ1 kσ start 0 s ∙ rw v refl) ∙ here σ ∙ ea;
      right_here = subst HY is_y (matching_is τ1 kτ start 0 s ∙ rw v refl) ∙ here τ ∙ eb;
      differ = subst DY is_y (subst DX is_x (matching_differ 0 s σ1 τ1 kσ kτ (masked_differ sig 0 s σ τ d) start));
    }
  where
    here : (ρ : Substitution) → masked th.signature ρ 0 s ≡ ρ 0 s
    here ρ = let z = lt-ltb s (length th.signature.sorts) hs in rw z refl

-- what is known of a place that a use goes through
record Through (f : Background) (g s i : ℕ) (ts : Trees) (e : Numbered) (a b : Tree) : Type 0 where
  sort : ℕ
  is_sort : IsSort f.theory.signature sort
  named : expand.arg_sort f.theory (place g i) ≡ sort
  links_sorted : AllOfLinks (IsWellSorted f.theory.signature) (f.certificate (place g i) e.number)
  bare : AreBare (f.certificate (place g i) e.number)
  last : Tree
  leads : Runs (Leads (link_setting f (basis [] 0 []))) (f.certificate (place g i) e.number) (start_at f.theory (place g i) e.entry.derivative) last
  guarded : Guarded f.theory f.places last 0 sort
  start_sorted : IsWellSorted f.theory.signature (start_at f.theory (place g i) e.entry.derivative)
  matched : Matched f.theory (start_at f.theory (place g i) e.entry.derivative) a b (derived e.entry.derivative (App g s (put_at ts i a)) e.entry.parameters)
      (derived e.entry.derivative (App g s (put_at ts i b)) e.entry.parameters) sort

through : (f : Background) → IsBackground f → (g s i : ℕ) (ts : Trees) (e : Numbered) (x a b : Tree) → Contains f.places (place g i)
    → slice_get (list_of ts) i ≡ Some x
    → IsWellSorted f.theory.signature (App g s (put_at ts i a)) → IsWellSorted f.theory.signature (App g s (put_at ts i b))
    → slice_get f.theory.derivatives e.number ≡ Some e.entry.derivative → e.entry.derivative.hole ≡ s → IsSubstitution f.theory.signature e.entry.parameters
    → Through f g s i ts e a b
through f fr g s i ts e x a b listed there wa wb num hole iq =
    let th = f.theory in
    let sig = th.signature in
    let ok : IsWellFormed th = fr.well_formed in
    let d : Derivative = e.entry.derivative in
    let q : Substitution = e.entry.parameters in
    let ld = contains_at th.derivatives e.number d num in
    let der = ok.derivatives d ld in
    let cert = fr.certified (place g i) wa.0 e.number d listed wa.1 num (hole ∙ sym wa.2) in
    let p = cert.certified.place in
    let o : Operator = p.operator in
    let r : ℕ = p.sort in
    let same : o ≡ wa.0 = same_Some o wa.0 (sym p.listed ∙ wa.1) in
    let result : o.result ≡ s = ap (λ (y : Operator). y.result) same ∙ wa.2 in
    let H : Operator → Type 0 = λ y. HaveSorts sig (put_at ts i a) y.args in
    let ha : HaveSorts sig (put_at ts i a) o.args = subst H (sym same) wa.3 in
    let same_b : o ≡ wb.0 = same_Some o wb.0 (sym p.listed ∙ wb.1) in
    let K : Operator → Type 0 = λ y. HaveSorts sig (put_at ts i b) y.args in
    let hb : HaveSorts sig (put_at ts i b) o.args = subst K (sym same_b) wb.3 in
    let at_a = arg_put g s i ts x a there in
    let at_b = arg_put g s i ts x b there in
    let sb : sort_of b ≡ r = arg_sort sig (put_at ts i b) o.args i b r hb at_b p.argument in
    let wtb : IsWellSorted sig b = at_sorted th (i ∷ []) (App g s (put_at ts i b)) b wb at_b in
    let hs : IsSort sig r = (ok.operators o (contains_at sig.ops g o p.listed)).args r (contains_at o.args i r p.argument) in
    let st = starts th ok o g r i (put_at ts i a) a b d q ld ha at_a p.argument (sb, wtb) iq in
    let start : Tree = start_term o (place g i) d in
    let start_is : start_at th (place g i) d ≡ start = ap (λ (y : Option Operator). option_map_or (λ z. start_term z (place g i) d) y (Var 0 0)) p.listed in
    let left_is : derived d (App g o.result (put_at ts i a)) q ≡ derived d (App g s (put_at ts i a)) q =
    ap (λ k. derived d (App g k (put_at ts i a)) q) result in
    let right_is : derived d (App g o.result (put_at (put_at ts i a) i b)) q ≡ derived d (App g s (put_at ts i b)) q =
    ap (λ k. derived d (App g k (put_at (put_at ts i a) i b)) q) result ∙ ap (λ y. derived d y q) (args_again g s i ts x a b there) in
    let ws = start_sorted th ok o g i d p.listed ld (hole ∙ sym result) in
    let wl = derived_by sig d (App g s (put_at ts i a)) q der (sym hole) wa iq in
    let wr = derived_by sig d (App g s (put_at ts i b)) q der (sym hole) wb iq in
    let m : Matched th start a b (derived d (App g s (put_at ts i a)) q) (derived d (App g s (put_at ts i b)) q) r =
    matched th start a b (derived d (App g s (put_at ts i a)) q)
    (derived d (App g s (put_at ts i b)) q) r st.left st.right st.left_sorted st.right_sorted hs ws wl.well_sorted wr.well_sorted
    (start_variable sig o g i d der r p.argument) (st.left_made ∙ left_is) (st.right_made ∙ right_is) st.left_here st.right_here st.differ in
    let L : Tree → Type 0 = λ y. Runs (Leads (link_setting f (basis [] 0 []))) (f.certificate (place g i) e.number) y cert.certified.last in
    let W : Tree → Type 0 = IsWellSorted sig in
    let M : Tree → Type 0 = λ y. Matched th y a b (derived d (App g s (put_at ts i a)) q) (derived d (App g s (put_at ts i b)) q) r in
    record {
      sort = r;
      is_sort = hs;
      named = ap (λ (y : Option Operator). option_map_or (λ z. unwrap_or (slice_get z.args i) 0) y 0) p.listed ∙ ap (λ y. unwrap_or y 0) p.argument;
      links_sorted = cert.sorted;
      bare = cert.bare;
      last = cert.certified.last;
      guarded = cert.certified.guarded;
      leads = subst L (sym start_is) cert.certified.leads;
      start_sorted = subst W (sym start_is) ws;
      matched = subst M (sym start_is) m;
    }

-- the call with what it goes along written out
abbrev pub along : Call → Option (List Layer) → Call
along c o = record c { along = o }

module _ (f : Background) (fr : IsBackground f) (run : Expander) (depth : ℕ) (so : IsSound f depth run) (c : Call) (g s i : ℕ) (ts : Trees) (xs : List Layer)
    (ic : IsCall f (along c (Some (At_place g s i ts ∷ xs)))) where
  abbrev a : Tree
  a = left_here run f c xs

  abbrev b : Tree
  b = right_here run f c xs

  abbrev here : Tree
  here = App g s (put_at ts i a)

  abbrev there : Tree
  there = App g s (put_at ts i b)

  -- the certificate on one of the terms
  certificate_leads : (e : Numbered) (cs : List Numbered) → (t : Through f g s i ts e a b) → (x : Tree) (ρ : Substitution)
      → Stands f (certified_call run f c cs ρ) x
      → sort_of (instance ρ (start_at f.theory (place g i) e.entry.derivative)) ≡ sort_of x
      → IsEnd f.theory (whole_with (certified_call run f c cs ρ) (instance ρ (start_at f.theory (place g i) e.entry.derivative)))
      → (n : ℕ) → n ≤ depth → Goes (Sided f (certified_call run f c cs ρ) (instance ρ (start_at f.theory (place g i) e.entry.derivative))
      (instance ρ t.last)) n
      (links_written run f (certified_call run f c cs ρ) (no_basis run f) (f.certificate (place g i) e.number)
      (start_at f.theory (place g i) e.entry.derivative) n)
  certificate_leads e cs t x ρ st se en n le =
      links_lead f fr run depth so (certified_call run f c cs ρ) x st (no_basis run f) (record {
        followed = λ y z. nothing y z;
        sorted = λ y z. nothing y z;
        raised = λ k p z. absurd (cc);
      })
      (f.certificate (place g i) e.number) t.links_sorted t.bare (start_at f.theory (place g i) e.entry.derivative) t.last t.start_sorted t.leads en se n le

  -- the operator of a place has a hidden result, so no experiment on it is empty
  entry_due : c.entries ≡ [] → ⊥
  entry_due ee =
      let st : Stands f c here = record {
        by = ic.stands.by;
        numbered = ic.stands.numbered;
        there = ic.stands.there;
        fits = ic.stands.fits;
        assumptions = ic.stands.assumptions;
      } in
      let wa : IsWellSorted f.theory.signature here = at_sorted f.theory (base c) c.whole here ic.left.well_sorted (base_there f c here st) in
      let p = all_of (IsPlace f.theory) f.places (place g i) fr.places ic.items.0 in
      let same : p.operator ≡ wa.0 = same_Some p.operator wa.0 (sym p.listed ∙ wa.1) in
      let result : p.operator.result ≡ s = ap (λ (o : Operator). o.result) same ∙ wa.2 in
      let H : ℕ → Type 0 = IsHidden f.theory in
      let F : List Numbered → Type 0 = λ es. Fits f.theory (bare_entries es) s in
      subst F ee st.fits (subst H result p.hidden)

  pub through_leads : (es : List Numbered) → c.entries ≡ es → (n : ℕ) → n ≤ depth
      → Goes (λ ys. PiecesLead f.theory c.assumptions ys c.whole (end_of (along c (Some (At_place g s i ts ∷ xs))))) n
      (through_place run f c (place g i) s ts xs es n)
  through_leads [] ee n le = absurd (entry_due ee)
  through_leads (e ∷ cs) ee n le =
      let th = f.theory in
      let sig = th.signature in
      let d : Derivative = e.entry.derivative in
      let q : Substitution = e.entry.parameters in
      let st : Stands f c here = record {
        by = ic.stands.by;
        numbered = ic.stands.numbered;
        there = ic.stands.there;
        fits = ic.stands.fits;
        assumptions = ic.stands.assumptions;
      } in
      let N : List Numbered → Type 0 = AreNumbered th in
      let num : AreNumbered th (e ∷ cs) = subst N ee st.numbered in
      let FI : List Numbered → Type 0 = λ es. Fits th (bare_entries es) s in
      let fit : Fits th (bare_entries (e ∷ cs)) s = subst FI ee st.fits in
      let TH : List Numbered → Type 0 = λ es. at c.whole c.path ≡ Some (on (bare_entries es) here) in
      let stands : at c.whole c.path ≡ Some (on (bare_entries (e ∷ cs)) here) = subst TH ee st.there in
      let ER : List Numbered → Type 0 = λ es. IsEnd th (put_or_same c.whole c.path (on (bare_entries es) there)) in
      let er : IsEnd th (put_or_same c.whole c.path (on (bare_entries (e ∷ cs)) there)) = subst ER ee ic.right in
      let wa : IsWellSorted sig here = at_sorted th (base c) c.whole here ic.left.well_sorted (base_there f c here st) in
      let end_there = at_replaced c.path c.whole (on (bare_entries (e ∷ cs)) there) (put_or_same c.whole c.path (on (bare_entries (e ∷ cs)) there))
      (put_there c.path c.whole (on (bare_entries (e ∷ cs)) here) (on (bare_entries (e ∷ cs)) there) stands) in
      let won = at_sorted th c.path (put_or_same c.whole c.path (on (bare_entries (e ∷ cs)) there))
      (on (bare_entries (e ∷ cs)) there) er.well_sorted end_there in
      let wb : IsWellSorted sig there = at_sorted th (holes (e ∷ cs)) (on (bare_entries (e ∷ cs)) there) there won (on_there th (e ∷ cs) num there) in
      let t = through f fr g s i ts e ic.items.1 a b ic.items.0 ic.items.2 wa wb num.0 fit.1 fit.2 in
      let start : Tree = start_at th (place g i) d in
      let x : Tree = derived d here q in
      let y : Tree = derived d there q in
      let σ : Substitution = matching start x in
      let τ : Substitution = matching start y in
      let ls : List (LinkOf Tree) = f.certificate (place g i) e.number in
      let cl : Call = certified_call run f c cs σ in
      let cr : Call = certified_call run f c cs τ in
      let co : Call = record c { entries = cs } in
      let body = derived_by sig d here q num.1 (sym fit.1) wa fit.2 in
      let FB : ℕ → Type 0 = Fits th (bare_entries cs) in
      let fits : Fits th (bare_entries cs) (sort_of x) = subst FB (sym body.same_sort) fit.3 in
      let stl : Stands f cl x = record { by = t.matched.left; numbered = num.2; there = stands; fits = fits; assumptions = st.assumptions } in
      let str : Stands f cr x = record { by = t.matched.right; numbered = num.2; there = stands; fits = fits; assumptions = st.assumptions } in
      let sto : Stands f co x = record { by = st.by; numbered = num.2; there = stands; fits = fits; assumptions = st.assumptions } in
      let sx : sort_of (instance σ start) ≡ sort_of x = ap sort_of t.matched.left_made in
      let sy : sort_of (instance τ start) ≡ sort_of x =
      sort_of-instance_by sig τ start t.matched.right t.start_sorted ∙ sym (sort_of-instance_by sig σ start t.matched.left t.start_sorted) ∙ sx in
      let whole_l : whole_with cl (instance σ start) ≡ c.whole = ap (whole_with cl) t.matched.left_made ∙ whole_self f cl x stl in
      let whole_r : whole_with cr (instance τ start) ≡ put_or_same c.whole c.path (on (bare_entries (e ∷ cs)) there) =
      ap (whole_with cr) t.matched.right_made ∙ whole_on f cr x str y in
      let E : Tree → Type 0 = IsEnd th in
      let el : IsEnd th (whole_with cl (instance σ start)) = subst E (sym whole_l) ic.left in
      let en : IsEnd th (whole_with cr (instance τ start)) = subst E (sym whole_r) er in
      let last : Tree = led_all (link_setting f (no_basis run f)) ls start in
      let last_is : last ≡ t.last = links_led (link_setting f (no_basis run f)) ls start t.last t.leads in
      let ps : Tree → List (List ℕ) = λ z. paths_of 0 (expand.arg_sort th (place g i)) z in
      let middle : Tree → ℕ → Spending Pieces = λ z k. occurrences_written run f co xs b z (ps z) (instance σ z) k in
      let whole3 : Pieces → Pieces → Pieces → ℕ → Spending Pieces = λ l w o j. Yields (pieces_joined l (pieces_joined o (turned w))) j in
      let bare : IsBasis f cl (no_basis run f) = record { followed = λ h z. nothing h z; sorted = λ h z. nothing h z; raised = λ k p z. absurd (cc) } in
      let kept = links_sorted (link_setting f (no_basis run f))
      (basis_setting f fr cl (no_basis run f) bare) ls t.links_sorted start t.last t.start_sorted t.leads in
      let sl : sort_of (instance σ t.last) ≡ sort_of x =
      sort_of-instance_by sig σ t.last t.matched.left kept.well_sorted ∙ kept.same_sort ∙ sym (sort_of-instance_by sig σ start t.matched.left t.start_sorted)
      ∙ sx in
      let moves = moved σ τ 0 t.sort t.matched.differ t.last in
      let back_entries : put_or_same c.whole c.path (on (bare_entries (e ∷ cs)) there) ≡ put_or_same c.whole c.path (on (bare_entries c.entries) there) =
      ap (λ es. put_or_same c.whole c.path (on (bare_entries es) there)) (sym ee) in
      let P : Pieces → Type 0 = λ zs. PiecesLead th c.assumptions zs c.whole (put_or_same c.whole c.path (on (bare_entries c.entries) there)) in
      let SL : Pieces → Type 0 = Sided f cl (instance σ start) (instance σ t.last) in
      let SR : Pieces → Type 0 = Sided f cr (instance τ start) (instance τ t.last) in
      let SO : Pieces → Type 0 = Sided f co (instance σ t.last) (instance τ t.last) in
      let all : Tree → Pieces → Pieces → ℕ → Spending Pieces = λ z l w j. continued (middle z j) (whole3 l w) in
      let both : Pieces → ℕ → Spending Pieces = λ l k. continued (links_written run f cr (no_basis run f) ls start k) (λ w j. all last l w j) in
      goes_all_tested P n (place_terms run f c (place g i) s ts xs e) (continued (links_written run f cl (no_basis run f) ls start n) both)
      (goes_on SL P n (links_written run f cl (no_basis run f) ls start n) both
      (certificate_leads e cs t x σ stl sx el n le)
      (λ l k lk gl. goes_on SR P k (links_written run f cr (no_basis run f) ls start k) (λ w j. all last l w j)
      (certificate_leads e cs t x τ str sy en k (omega (arith, lk, le)))
      (λ w j lj gw.
      let O : Tree → Type 0 = λ z. Goes P j (all z l w j) in
      let PS : ℕ → Type 0 = λ z. Goes SO j (occurrences_written run f co xs b t.last (paths_of 0 z t.last) (instance σ t.last) j) in
      let done : PS t.sort = occurrences_lead f fr run depth so co x sto ic.followed xs ic.items.3 σ τ t.matched.left t.matched.right t.sort t.is_sort
      t.matched.left_here t.matched.right_here t.last kept.well_sorted t.guarded
      (paths_of 0 t.sort t.last) (instance σ t.last) (instance τ t.last) moves gl.end sl j (omega (arith, lj, lk, le)) in
      let back = pieces_turned th fr.well_formed c.assumptions w (whole_with cr (instance τ start)) (whole_with cr (instance τ t.last)) gw.lead en.within in
      subst O (sym last_is)
      (goes_on SO P j (middle t.last j) (whole3 l w) (subst PS (sym t.named) done)
      (λ o i2 li go.
      let zs : Pieces = pieces_joined l (pieces_joined o (turned w)) in
      let lead : PiecesLead th c.assumptions zs (whole_with cl (instance σ start)) (whole_with cr (instance τ start)) =
      joined_lead th c.assumptions l (pieces_joined o (turned w)) (whole_with cl (instance σ start)) (whole_with cl (instance σ t.last))
      (whole_with cr (instance τ start)) gl.lead
      (joined_lead th c.assumptions o (turned w) (whole_with cl (instance σ t.last)) (whole_with cr (instance τ t.last))
      (whole_with cr (instance τ start)) go.lead back) in
      let LL : Tree → Type 0 = λ z. PiecesLead th c.assumptions zs z (whole_with cr (instance τ start)) in
      let LR : Tree → Type 0 = λ z. PiecesLead th c.assumptions zs c.whole z in
      goes_value P i2 zs (subst LR (whole_r ∙ back_entries) (subst LL whole_l lead)))))))
