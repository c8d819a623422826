-- What a turn of a refutation does to what is found.
use Rattle.std.proofs.Common.{◌≡◌, ◌≢◌, ℕ, ◌+◌, ◌-◌, ◌≤◌, ◌<◌, zero, suc, length, Bool, true, false, ◌==◌, if◌then◌else◌, List, [], ◌∷◌, ◌++◌, Some, None, Result, length-append, refl, ap, sym, ◌∙◌, subst, arith}
use Rattle.std.specs.List.{list_any, Contains}
use Rattle.std.specs.Option.{option_map_or}
use Rattle.std.proofs.lemmas.Bool.{eqb-true}
use Rattle.circ_term.specs.Tree.{Tree, sort_of}
use Rattle.circ_term.specs.Limits.{Limit, Big, Deep, Names}
use Rattle.circ_term.specs.Order.{is_same}
use Rattle.circ_term.specs.declared.fault.TermFault.{TermFault}
use Rattle.circ_term.specs.declared.fault.TermFault.TheVariants as term
use Rattle.circ_theory.specs.Theory.{Theory, Pair, pair_with, Derivative}
use Rattle.circ_theory.specs.WellFormed.{IsWellFormed}
use Rattle.circ_theory.specs.Observing.{is_hidden}
use Rattle.circ_theory.specs.Fresh.{numbered_from}
use Rattle.circ_theory.proofs.Derived.{derived_by, numbered_from_substitution}
use Rattle.circ_theory.proofs.Weakening.{in_rest}
use Rattle.circ_theory.proofs.Casing.{contains_first}
use Rattle.circ_theory.proofs.Lists.{all_by}
use Rattle.circ_rewrite.specs.Replacement.{Traced}
use Rattle.circ_rewrite.specs.Norm.{Normalised, Normal_form}
use Rattle.circ_rewrite.specs.Plain.{Faults}
use Rattle.circ_rewrite.specs.declared.fault.RewriteFault.{RewriteFault}
use Rattle.circ_rewrite.specs.declared.fault.RewriteFault.TheVariants as rewrite
use Rattle.circ_plain_search.proofs.Derived.{derived_low}
use Rattle.circ_plain_search.proofs.Led.{all_append}
use Rattle.circ_entry.specs.Entries.{Written}
use Rattle.circ_refute.specs.PlainRefutation.{Waiting, Conclusion, conclude, Told_apart, Alike, Spent, Past_limit, child, children, waiting_limit, first_parameter, grow, are_two_cases, is_pair, normal, with_normal, refute}
use Rattle.circ_refute.specs.Plain.{term_halt, rewrite_halt}
use Rattle.circ_refute.specs.Progress.{Progress, progress_with, work, conclusion_from, expanding, conclusion_of_expanding, conclusion_of_pair, IsLowPair, AreLowPairs, HasRoom, HaltsWith, GoesOn}
use Rattle.circ_refute.specs.declared.halt.Halt.{Halt}

-- ---- what is found from here on

pub none_waits : (th : Theory) (d n : ℕ) (seen : List Pair) → refute th d n seen [] ≡ conclude Alike n d
none_waits th zero n seen = refl
none_waits th (suc d) n seen = refl

first_waits : (th : Theory) (d n : ℕ) (seen : List Pair) (w : Waiting) (ws : List Waiting) → refute th d n seen (w ∷ ws)
    ≡ with_normal d (normal th n w.left) (λ l k. with_normal d (normal th k w.right) (λ m j. conclusion_of_pair th (progress_with ws seen j d) w.by l m))
first_waits th zero n seen w ws = refl
first_waits th (suc d) n seen w ws = refl

-- no normal form is found
no_normal : (e : RewriteFault) (left d : ℕ) (o : Normalised) (f : Tree → ℕ → Conclusion) (p : Progress) → Faults e left o → p.rewrites ≡ left → p.derives ≡ d
    → HaltsWith (with_normal d o f) p (rewrite_halt e)
no_normal rewrite.Spent left d o f p h a b = let e = h.0 in let z = h.1 in rw (e, a, b, z) refl
no_normal (rewrite.TooBig n) left d o f p h a b = rw (h, a, b) refl
no_normal (rewrite.TooDeep n) left d o f p h a b = rw (h, a, b) refl
no_normal rewrite.Memory left d o f p h a b = tt

-- ---- a pair of normal forms

module _ (th : Theory) (p : Progress) (by : List Written) (l m : Tree) where
  pub judge_same : is_same l m ≡ true → conclusion_of_pair th p by l m ≡ conclusion_from th p
  judge_same e = rw e refl

  pub judge_seen : is_same l m ≡ false → is_hidden th (sort_of l) ≡ true → list_any (is_pair l m) p.expanded ≡ true
      → conclusion_of_pair th p by l m ≡ conclusion_from th p
  judge_seen e h s = rw (e, h, s) refl

  pub judge_new : is_same l m ≡ false → is_hidden th (sort_of l) ≡ true → list_any (is_pair l m) p.expanded ≡ false
      → conclusion_of_pair th p by l m ≡ conclusion_of_expanding th p by l m
  judge_new e h s = rw (e, h, s) refl

  pub judge_apart : is_same l m ≡ false → is_hidden th (sort_of l) ≡ false → are_two_cases th l m ≡ true
      → conclusion_of_pair th p by l m ≡ conclude (Told_apart by l m) p.rewrites p.derives
  judge_apart e h s = rw (e, h, s) refl

  pub judge_visible : is_same l m ≡ false → is_hidden th (sort_of l) ≡ false → are_two_cases th l m ≡ false
      → conclusion_of_pair th p by l m ≡ conclusion_from th p
  judge_visible e h s = rw (e, h, s) refl

  -- ---- an expansion

  pub expand_spent : p.derives ≡ 0 → conclusion_of_expanding th p by l m ≡ conclude Spent p.rewrites p.derives
  expand_spent e = ap (λ d. expanding th d by l m p.rewrites p.expanded p.queue) e ∙ ap (conclude Spent p.rewrites) (sym e)

  abbrev new : List Waiting
  new = children by l m (first_parameter l m) 0 th.derivatives

  one_less : (d : ℕ) → d ≢ 0 → d ≡ suc (d - 1)
  one_less d h = omega (arith, h)

  expand_more : p.derives ≢ 0
      → conclusion_of_expanding th p by l m ≡ grow (refute th (p.derives - 1)) (p.derives - 1) l m p.rewrites p.expanded p.queue new
  expand_more h = ap (λ d. expanding th d by l m p.rewrites p.expanded p.queue) (one_less p.derives h)

  found_past : (x : Limit) → p.derives ≢ 0 → waiting_limit new ≡ Some x
      → conclusion_of_expanding th p by l m ≡ conclude (Past_limit x) p.rewrites (p.derives - 1)
  found_past x h e =
      let after : Conclusion = refute th (p.derives - 1) p.rewrites (p.expanded ++ pair_with l m ∷ []) (p.queue ++ new) in
      expand_more h ∙ ap (λ o. option_map_or (λ y. conclude (Past_limit y) p.rewrites (p.derives - 1)) o after) e

  pub expand_past : (q : Progress) → p.derives ≢ 0 → (e : TermFault) → Names e (waiting_limit new) → q.rewrites ≡ p.rewrites → q.derives ≡ p.derives - 1
      → HaltsWith (conclusion_of_expanding th p by l m) q (term_halt e)
  expand_past q h (term.TooBig n) s a b =
      found_past (Big n) h s ∙ ap (λ x. conclude (Past_limit (Big n)) x (p.derives - 1)) (sym a) ∙ ap (conclude (Past_limit (Big n)) q.rewrites) (sym b)
  expand_past q h (term.TooDeep n) s a b =
      found_past (Deep n) h s ∙ ap (λ x. conclude (Past_limit (Deep n)) x (p.derives - 1)) (sym a) ∙ ap (conclude (Past_limit (Deep n)) q.rewrites) (sym b)
  expand_past q h term.Memory s a b = tt

  abbrev pub after_expanding : Progress
  after_expanding = progress_with (p.queue ++ new) (p.expanded ++ pair_with l m ∷ []) p.rewrites (p.derives - 1)

  pub expand_on : p.derives ≢ 0 → waiting_limit new ≡ None → conclusion_of_expanding th p by l m ≡ conclusion_from th after_expanding
  expand_on h e =
      let after : Conclusion = refute th (p.derives - 1) p.rewrites (p.expanded ++ pair_with l m ∷ []) (p.queue ++ new) in
      expand_more h ∙ ap (λ o. option_map_or (λ y. conclude (Past_limit y) p.rewrites (p.derives - 1)) o after) e

-- ---- the numbers of variables

pair_more : (th : Theory) (b c : ℕ) (l m : Tree) → b ≤ c → IsLowPair th b l m → IsLowPair th c l m
pair_more th b c l m h p = record { sorted = p.sorted; left = omega (arith, h, p.left); right = omega (arith, h, p.right) }

pub first_low : (th : Theory) (bound : ℕ) → 1 ≤ bound → (l m : Tree) → IsLowPair th bound l m → first_parameter l m ≤ bound
first_low th bound one l m p = let a = p.left in let b = p.right in omega (arith, one, a, b)

module _ (th : Theory) (ok : IsWellFormed th) (bound : ℕ) (by : List Written) (l m : Tree) (p : IsLowPair th bound l m) (k : ℕ) (low : k ≤ bound) where
  child_low : (i : ℕ) (d : Derivative) → Contains th.derivatives d → d.hole ≡ sort_of l → IsLowPair th (bound + 8) (child by l m k i d).left (child by l m k i d).right
  child_low i d c e =
      let sig = th.signature in
      let der = ok.derivatives d c in
      let iq = numbered_from_substitution sig k in
      let x = derived_by sig d l (numbered_from k) der (sym e) p.sorted.left iq in
      let y = derived_by sig d m (numbered_from k) der (p.sorted.same_sort ∙ sym e) p.sorted.right iq in
      record {
        sorted = record { left = x.well_sorted; right = y.well_sorted; same_sort = y.same_sort ∙ sym x.same_sort };
        left = derived_low th ok d c k bound l p.left low;
        right = derived_low th ok d c k bound m p.right low;
      }

  children_low : (i : ℕ) (ds : List Derivative) → ((d : Derivative) → Contains ds d → Contains th.derivatives d) → AreLowPairs th (bound + 8) (children by l m k i ds)
  children_low i [] c = tt
  children_low i (d ∷ ds) c = go (d.hole == sort_of l) refl (children_low (i + 1) ds (λ e z. c e (in_rest d e ds z)))
    where
      go : (b : Bool) → (d.hole == sort_of l) ≡ b → AreLowPairs th (bound + 8) (children by l m k (i + 1) ds)
          → AreLowPairs th (bound + 8) (if b then child by l m k i d ∷ children by l m k (i + 1) ds else children by l m k (i + 1) ds)
      go true e a = (child_low i d (c d (contains_first d ds)) (eqb-true d.hole (sort_of l) e), a)
      go false e a = a

pub room_after : (th : Theory) → IsWellFormed th → (p : Progress) → (r : HasRoom th p) → (by : List Written) (l m : Tree) → IsLowPair th r.bound l m → p.derives ≢ 0
    → HasRoom th (after_expanding th p by l m)
room_after th ok p r by l m q h =
    let more : AreLowPairs th (r.bound + 8) p.queue =
    all_by (λ w. IsLowPair th r.bound w.left w.right) (λ w. IsLowPair th (r.bound + 8) w.left w.right) p.queue
    (λ w a. pair_more th r.bound (r.bound + 8) w.left w.right (omega arith) a) r.pairs in
    record {
      bound = r.bound + 8;
      some = omega (arith, r.some);
      room = omega (arith, r.room, h);
      pairs = all_append (λ w. IsLowPair th (r.bound + 8) w.left w.right) p.queue (children by l m (first_parameter l m) 0 th.derivatives) more
          (children_low th ok r.bound by l m q (first_parameter l m) (first_low th r.bound r.some l m q) 0 th.derivatives (λ d c. c));
    }

-- no more children than derivatives
children_few : (by : List Written) (l m : Tree) (k i : ℕ) (ds : List Derivative) → length (children by l m k i ds) ≤ length ds
children_few by l m k i [] = omega arith
children_few by l m k i (d ∷ ds) = go (d.hole == sort_of l) (children_few by l m k (i + 1) ds)
  where
    go : (b : Bool) → length (children by l m k (i + 1) ds) ≤ length ds
        → length (if b then child by l m k i d ∷ children by l m k (i + 1) ds else children by l m k (i + 1) ds) ≤ suc (length ds)
    go true h = omega (arith, h)
    go false h = omega (arith, h)

-- an expansion leaves less to be done than before the pair was taken
pub work_after : (th : Theory) → IsWellFormed th → (p : Progress) (by : List Written) (l m : Tree) → p.derives ≢ 0 → work (after_expanding th p by l m) < work p + 1
work_after th ok p by l m h =
    let few = children_few by l m (first_parameter l m) 0 th.derivatives in
    omega (arith, h, few, ok.few_derivatives, length-append p.queue (children by l m (first_parameter l m) 0 th.derivatives))

-- ---- a turn

module _ (th : Theory) (p : Progress) (w : Waiting) (ws : List Waiting) (q : p.queue ≡ w ∷ ws) where
  abbrev rest : ℕ → Progress
  rest j = progress_with ws p.expanded j p.derives

  abbrev right_too : Tree → ℕ → Conclusion
  right_too l k = with_normal p.derives (normal th k w.right) (λ m j. conclusion_of_pair th (rest j) w.by l m)

  begun : conclusion_from th p ≡ with_normal p.derives (normal th p.rewrites w.left) right_too
  begun = ap (refute th p.derives p.rewrites p.expanded) q ∙ first_waits th p.derives p.rewrites p.expanded w ws

  left_found : (l : Tree) (ts : List Traced) (k : ℕ) → normal th p.rewrites w.left ≡ Normal_form l ts k → conclusion_from th p ≡ right_too l k
  left_found l ts k e = begun ∙ ap (λ o. with_normal p.derives o right_too) e

  pub left_halts : (e : RewriteFault) (left : ℕ) → Faults e left (normal th p.rewrites w.left) → (new : Progress) → new.rewrites ≡ left
      → new.derives ≡ p.derives → HaltsWith (conclusion_from th p) new (rewrite_halt e)
  left_halts e left f new a b =
      let C : Conclusion → Type 0 = λ c. HaltsWith c new (rewrite_halt e) in
      subst C (sym begun) (no_normal e left p.derives (normal th p.rewrites w.left) right_too new f a b)

  pub right_halts : (l : Tree) (ts : List Traced) (k : ℕ) → normal th p.rewrites w.left ≡ Normal_form l ts k → (e : RewriteFault) (left : ℕ)
      → Faults e left (normal th k w.right) → (new : Progress) → new.rewrites ≡ left → new.derives ≡ p.derives
      → HaltsWith (conclusion_from th p) new (rewrite_halt e)
  right_halts l ts k n e left f new a b =
      let C : Conclusion → Type 0 = λ c. HaltsWith c new (rewrite_halt e) in
      subst C (sym (left_found l ts k n))
      (no_normal e left p.derives (normal th k w.right) (λ m j. conclusion_of_pair th (rest j) w.by l m) new f a b)

  pub both_found : {X : Type 0} (l m : Tree) (ts us : List Traced) (k j : ℕ) → normal th p.rewrites w.left ≡ Normal_form l ts k
      → normal th k w.right ≡ Normal_form m us j → (new : Progress) (r : Result X Halt)
      → GoesOn th (conclusion_of_pair th (rest j) w.by l m) (work (rest j) + 1) new r → GoesOn th (conclusion_from th p) (work p) new r
  both_found l m ts us k j e f new r g =
      let same : conclusion_from th p ≡ conclusion_of_pair th (rest j) w.by l m =
      left_found l ts k e ∙ ap (λ o. with_normal p.derives o (λ m j. conclusion_of_pair th (rest j) w.by l m)) f in
      let less : work (rest j) + 1 ≡ work p = omega (arith, ap length q) in
      let C : Conclusion → Type 0 = λ c. GoesOn th c (work p) new r in
      let N : ℕ → Type 0 = λ n. GoesOn th (conclusion_of_pair th (rest j) w.by l m) n new r in
      subst C (sym same) (subst N less g)
