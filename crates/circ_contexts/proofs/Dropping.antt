-- Dropping candidates until none is dropped gives the greatest special set.
use Rattle.std.specs.Prelude.{◌≡◌, ◌≤◌, ℕ, List, [], ◌∷◌, ◌++◌, map, length, drop, ◌+◌, zero, suc, Vec, refl}
use Rattle.std.specs.List.{AllByRecursion, Contains}
use Rattle.std.proofs.Common.{Global, ap, sym, subst, ◌∙◌, append_assoc, append-nil}
use Rattle.std.proofs.Math.ListN.{drop_of_length-le}
use Rattle.circ_term.specs.Tree.{Tree}
use Rattle.circ_theory.specs.Theory.{Theory, Derivative}
use Rattle.circ_theory.proofs.Casing.{contains_first}
use Rattle.circ_theory.proofs.Weakening.{in_rest}
use Rattle.circ_special.specs.declared.place.Place.{Place}
use Rattle.circ_special.specs.Guarded.{Guarded}
use Rattle.circ_special.specs.Special.{IsPlace, IsSet, IsIncreasing, IsWithin}
use Rattle.circ_special.proofs.Larger.{guarded_more}
use Rattle.circ_rewrite.specs.Plain.{plain_traces}
use Rattle.circ_rewrite.specs.Replacement.{Traced}
use Rattle.circ_rewrite.specs.declared.parts.Normal.{Normal}
use Rattle.circ_rewrite.specs.declared.parts.Trace.{Trace}
use Rattle.circ_proof.specs.Certified.{derivatives_at, due}
use Rattle.circ_contexts.specs.Candidates.{AreNormals, HaveNormalForms, AddsTraces, IsFound, AreCandidates, Passes, StandsAt, IsLast, IsGreatest, places_of, plain_lists}
use Rattle.circ_plain_search.specs.Places.{all_places}
use Rattle.circ_plain_search.specs.Greatest.{HasNormalForm, IsCandidate, IsSelfGuarded, AreTraces, GreatestSpecialSet}
use Rattle.circ_plain_search.specs.Keeps.{Keeps, ends, keeps, drops}
use Rattle.circ_contexts.specs.declared.candidates.Candidate.{Candidate}
use Rattle.circ_plain_search.proofs.Increasing.{all_increase, increasing_kept, increasing_first, increasing_tail, before_all, is_listed}
use Rattle.circ_plain_search.proofs.Keeping.{contains_none, pick, kept_from, kept_all, same_kept, all_kept}

all_of : {X : Type 0} (P : X → Type 0) (xs : List X) (x : X) → AllByRecursion P xs → Contains xs x → P x
all_of P [] x a c = contains_none x c
all_of P (y ∷ xs) x a c = pick P y x xs a.0 (λ d. all_of P xs x a.1 d) c

-- ---- the candidate of a place

record Origin (cs : List Candidate) (g : Place) : Type 0 where
  candidate : Candidate
  listed : Contains cs candidate
  place : candidate.place ≡ g

origin : (cs : List Candidate) (g : Place) → Contains (places_of cs) g → Origin cs g
origin [] g c = contains_none g c
origin (d ∷ cs) g c =
    pick (Origin (d ∷ cs)) d.place g (places_of cs) (record { candidate = d; listed = contains_first d cs; place = refl })
    (λ x. let o = origin cs g x in record { candidate = o.candidate; listed = in_rest d o.candidate cs o.listed; place = o.place }) c

place_within : (cs : List Candidate) (c : Candidate) → Contains cs c → Contains (places_of cs) c.place
place_within [] c h = contains_none c h
place_within (d ∷ cs) c h =
    let P : Candidate → Type 0 = λ x. Contains (places_of (d ∷ cs)) x.place in
    pick P d c cs (contains_first d.place (places_of cs)) (λ x. in_rest d.place c.place (places_of cs) (place_within cs c x)) h

-- those that are kept have places that increase still
places_kept : (P : Candidate → Type 0) {cs ds : List Candidate} → Keeps P cs ds → IsIncreasing (places_of cs) → IsIncreasing (places_of ds)
places_kept P ends i = tt
places_kept P (keeps {xs = cs} {ys = ds} c p k) i =
    increasing_first c.place (places_of ds)
    (λ q h.
    let o = origin ds q h in
    before_all c.place q (places_of cs) i
    (subst (Contains (places_of cs)) o.place (place_within cs o.candidate (kept_from P k o.candidate o.listed).0)))
    (places_kept P k (increasing_tail c.place (places_of cs) i))
places_kept P (drops {xs = cs} c n k) i = places_kept P k (increasing_tail c.place (places_of cs) i)

module _ (th : Theory) (budget : ℕ) where
  pub is_candidate : (c : Candidate) → IsFound th budget c → IsCandidate th budget c.place
  is_candidate c f = record { place = f.place; normal_forms = f.needs.0 }

  -- ---- the first round

  pub all_placed : {gs : List Place} → Keeps (IsPlace th) (all_places 0 th.signature.ops) gs → AllByRecursion (IsPlace th) gs
  all_placed k = go k
    where
      go : {ws gs : List Place} → Keeps (IsPlace th) ws gs → AllByRecursion (IsPlace th) gs
      go ends = tt
      go (keeps g p k) = (p, go k)
      go (drops g n k) = go k

  pub stands_first : (gs : List Place) (cs : List Candidate) → Keeps (IsPlace th) (all_places 0 th.signature.ops) gs → AreCandidates th budget gs cs
      → StandsAt th budget cs
  stands_first gs cs k a = record {
    increasing = increasing_kept (IsCandidate th budget) a.kept (increasing_kept (IsPlace th) k (all_increase 0 th.signature.ops));
    found = a.found;
    most = λ F s g c.
        let x = s.candidates g c in
        kept_all (IsCandidate th budget) a.kept g (kept_all (IsPlace th) k g (is_listed th g x.place) x.place) x;
  }

  -- ---- one round more

  module _ (cs ds : List Candidate) (st : StandsAt th budget cs) (k : Keeps (Passes (places_of cs)) cs ds) where
    of_set : (F : List Place) → IsSelfGuarded th budget F → IsWithin F (places_of ds)
    of_set F s g c =
        let w : IsWithin F (places_of cs) = st.most F s in
        let o = origin cs g (w g c) in
        let x = o.candidate in
        let f : IsFound th budget x = all_of (IsFound th budget) cs x st.found o.listed in
        let in_set : Contains F x.place = subst (Contains F) (sym o.place) c in
        let passes : Passes (places_of cs) x = (f.needs.1 (places_of cs)).1
        (λ d l t ts h. guarded_more th F (places_of cs) w t 0 h.place.sort (s.guarded x.place in_set d l t ts h))
        in
        subst (Contains (places_of ds)) o.place (place_within ds x (kept_all (Passes (places_of cs)) k x o.listed passes))

    pub stands_next : StandsAt th budget ds
    stands_next = record {
      increasing = places_kept (Passes (places_of cs)) k st.increasing;
      found = all_kept (Passes (places_of cs)) (IsFound th budget) k st.found;
      most = of_set;
    }

    -- none was dropped
    pub stands_last : length cs ≤ length ds → IsLast th budget ds
    stands_last h =
        let same : ds ≡ cs = same_kept (Passes (places_of cs)) k h in
        let Q : List Candidate → Type 0 = λ xs. AllByRecursion (Passes (places_of xs)) ds in
        record { stands = stands_next; passes = subst Q (sym same) (each_passes k) }
      where
        each_passes : {xs ys : List Candidate} → Keeps (Passes (places_of cs)) xs ys → AllByRecursion (Passes (places_of cs)) ys
        each_passes ends = tt
        each_passes (keeps c p k) = (p, each_passes k)
        each_passes (drops c n k) = each_passes k

  -- ---- what is left

  pub is_set : (cs : List Candidate) → StandsAt th budget cs → IsSet th (places_of cs)
  is_set cs st = record { increasing = st.increasing; places = go cs st.found }
    where
      go : (cs : List Candidate) → AllByRecursion (IsFound th budget) cs → AllByRecursion (IsPlace th) (places_of cs)
      go [] a = tt
      go (c ∷ cs) a = (a.0.place, go cs a.1)

  self_guarded : (cs : List Candidate) → IsLast th budget cs → IsSelfGuarded th budget (places_of cs)
  self_guarded cs l = record { candidates = candidates; guarded = guarded }
    where
      candidates : (g : Place) → Contains (places_of cs) g → IsCandidate th budget g
      candidates g c =
          let o = origin cs g c in
          subst (IsCandidate th budget) o.place (is_candidate o.candidate (all_of (IsFound th budget) cs o.candidate l.stands.found o.listed))

      guarded : (g : Place) → Contains (places_of cs) g → (d : Derivative) → Contains (derivatives_at th g) d → (t : Tree) (ts : List Traced)
          → (h : HasNormalForm th budget g d t ts) → Guarded th (places_of cs) t 0 h.place.sort
      guarded g c d m t ts h =
          let o = origin cs g c in
          let x = o.candidate in
          let f : IsFound th budget x = all_of (IsFound th budget) cs x l.stands.found o.listed in
          let p : Passes (places_of cs) x = all_of (Passes (places_of cs)) cs x l.passes o.listed in
          let R : Place → Type 0 = λ g. Contains (derivatives_at th g) d → (h : HasNormalForm th budget g d t ts)
          → Guarded th (places_of cs) t 0 h.place.sort in
          subst R o.place (λ y z. (f.needs.1 (places_of cs)).0 p d y t ts z) m h

  -- the traces of a candidate, and then those of the others
  traces_append : (g : Place) (ds : List Derivative) (ns : List Normal) (xs : List (Place × Derivative)) (tss : List (List Traced))
      → AreNormals th budget g ds ns → AreTraces th budget xs tss
      → AreTraces th budget (map (λ d. (g, d)) ds ++ xs) (map (λ n. plain_traces n.traces.items) ns ++ tss)
  traces_append g [] [] xs tss a t = t
  traces_append g [] (n ∷ ns) xs tss a t = absurd a
  traces_append g (d ∷ ds) [] xs tss a t = absurd a
  traces_append g (d ∷ ds) (n ∷ ns) xs tss a t = ((n.term, a.0), traces_append g ds ns xs tss a.1 t)

  -- what is found up to the place of number i
  abbrev pub TracesTo : (gs : List Place) (i : ℕ) (vs : List (Vec Trace Global)) → Type 0
  TracesTo gs i vs = (tss : List (List Traced)) → AreTraces th budget (due th (drop i gs)) tss → AreTraces th budget (due th gs) (plain_lists vs ++ tss)

  plain_append : (vs ws : List (Vec Trace Global)) → plain_lists (vs ++ ws) ≡ plain_lists vs ++ plain_lists ws
  plain_append [] ws = refl
  plain_append (v ∷ vs) ws = ap (λ xs. plain_traces v.items ∷ xs) (plain_append vs ws)

  plain_of : (ns : List Normal) → plain_lists (map (λ (n : Normal). n.traces) ns) ≡ map (λ (n : Normal). plain_traces n.traces.items) ns
  plain_of [] = refl
  plain_of (n ∷ ns) = ap (λ xs. plain_traces n.traces.items ∷ xs) (plain_of ns)

  pub traces_next : (gs : List Place) (i : ℕ) (g : Place) (old new : List (Vec Trace Global)) → drop i gs ≡ g ∷ drop (i + 1) gs → TracesTo gs i old
      → AddsTraces th budget g old new → TracesTo gs (i + 1) new
  traces_next gs i g old new e st (ns, a, is) tss t =
      let ds = derivatives_at th g in
      let here = traces_append g ds ns (due th (drop (i + 1) gs)) tss a t in
      let P : List Place → Type 0 = λ xs. AreTraces th budget (due th xs) (map (λ (n : Normal). plain_traces n.traces.items) ns ++ tss) in
      let all = st (map (λ (n : Normal). plain_traces n.traces.items) ns ++ tss) (subst P (sym e) here) in
      let same : plain_lists new ++ tss ≡ plain_lists old ++ (map (λ (n : Normal). plain_traces n.traces.items) ns ++ tss)
      = ap (λ xs. plain_lists xs ++ tss) is ∙ ap (λ xs. xs ++ tss) (plain_append old (map (λ (n : Normal). n.traces) ns) ∙ ap (λ xs. plain_lists old ++ xs) (plain_of ns))
      ∙ append_assoc (plain_lists old) (map (λ (n : Normal). plain_traces n.traces.items) ns) tss in
      subst (AreTraces th budget (due th gs)) (sym same) all

  pub traces_first : (gs : List Place) → TracesTo gs 0 []
  traces_first gs = λ tss t. t

  -- the candidate that comes next
  pub one_candidate : (gs : List Place) (i : ℕ) (g : Place) → drop i gs ≡ g ∷ drop (i + 1) gs → AllByRecursion (IsCandidate th budget) gs → IsCandidate th budget g
  one_candidate gs i g e a =
      let P : List Place → Type 0 = AllByRecursion (IsCandidate th budget) in
      let rest : AllByRecursion (IsCandidate th budget) (g ∷ drop (i + 1) gs) = subst P e (dropped i gs a) in rest.0
    where
      dropped : (i : ℕ) (gs : List Place) → AllByRecursion (IsCandidate th budget) gs → AllByRecursion (IsCandidate th budget) (drop i gs)
      dropped zero gs a = a
      dropped (suc i) [] a = tt
      dropped (suc i) (g ∷ gs) a = dropped i gs a.1

  pub traces_last : (gs : List Place) (i : ℕ) (vs : List (Vec Trace Global)) → length gs ≤ i → TracesTo gs i vs → AreTraces th budget (due th gs) (plain_lists vs)
  traces_last gs i vs past st =
      let P : List Place → Type 0 = λ xs. AreTraces th budget (due th xs) [] in
      subst (AreTraces th budget (due th gs)) (append-nil (plain_lists vs)) (st [] (subst P (sym (drop_of_length-le gs past)) tt))

  -- candidates have traces
  pub some_traces : (gs : List Place) → AllByRecursion (IsCandidate th budget) gs → (tss : List (List Traced)) × AreTraces th budget (due th gs) tss
  some_traces [] a = ([], tt)
  some_traces (g ∷ gs) a = let rest = some_traces gs a.1 in go (derivatives_at th g) a.0.normal_forms rest
    where
      go : (ds : List Derivative) → HaveNormalForms th budget g ds → (tss : List (List Traced)) × AreTraces th budget (due th gs) tss
          → (tss : List (List Traced)) × AreTraces th budget (map (λ d. (g, d)) ds ++ due th gs) tss
      go [] h rest = rest
      go (d ∷ ds) h rest =
          let here = h d (contains_first d ds) in
          let more = go ds (λ e c. h e (in_rest d e ds c)) rest in
          (here.1 ∷ more.0, ((here.0, here.2), more.1))

  pub is_greatest : (cs : List Candidate) → IsLast th budget cs → IsGreatest th budget (places_of cs)
  is_greatest cs l = record {
    candidates = all cs l.stands.found;
    greatest = λ tss t. record {
      increasing = l.stands.increasing;
      self_guarded = self_guarded cs l;
      greatest = l.stands.most;
      recorded = t;
    };
  }
    where
      all : (cs : List Candidate) → AllByRecursion (IsFound th budget) cs → AllByRecursion (IsCandidate th budget) (places_of cs)
      all [] a = tt
      all (c ∷ cs) a = (is_candidate c a.0, all cs a.1)

  pub greatest_with_traces : (G : List Place) → IsGreatest th budget G → (tss : List (List Traced)) × GreatestSpecialSet th budget G tss
  greatest_with_traces G h = let t = some_traces G h.candidates in (t.0, h.greatest t.0 t.1)
