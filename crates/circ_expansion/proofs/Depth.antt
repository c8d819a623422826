-- How many uses may stand inside one another plays no part, as long as they are more than the units.
use Rattle.std.proofs.Common.{◌≡◌, ◌≤◌, ◌<◌, ℕ, ◌+◌, List, [], ◌∷◌, ◌++◌, zero, suc, map, Option, Some, None, unwrap_or, refl, subst, arith}
use Rattle.std.specs.Option.{option_map_or}
use Rattle.circ_term.specs.Tree.{Tree, Trees, sort_of, at}
use Rattle.circ_term.specs.Limits.{Limit, first_limit}
use Rattle.circ_term.specs.Substitution.{Substitution, instance}
use Rattle.circ_theory.specs.Theory.{CaseList}
use Rattle.circ_theory.specs.Derivable.{is_case}
use Rattle.circ_theory.specs.Rewriting.{by_terms}
use Rattle.circ_special.specs.declared.place.Place.{Place}
use Rattle.circ_special.specs.Special.{place}
use Rattle.circ_rewrite.specs.Matching.{matching}
use Rattle.circ_proof.specs.Plain.{LinkOf, Equation_link, Hypothesis_link, Assumption_link, Content_link, WhyOf, WhysOf, Same_why, Split_why, no_why}
use Rattle.circ_proof.specs.Plain.{more_whys}
use Rattle.circ_entry.specs.Entries.{Numbered}
use Rattle.circ_expansion.specs.Followed.{History, Simplified, Reduced_by, Derived, Open, Followed, goal_in, put_or_same, led, led_all}
use Rattle.circ_expansion.specs.Pieces.{Piece, Pieces, Parts, Equation_piece, Content_piece, Assumption_piece, Cases_piece, no_piece, more_pieces, no_part}
use Rattle.circ_expansion.specs.Pieces.{more_parts}
use Rattle.circ_expansion.specs.Pieces.{pieces_joined, turned}
use Rattle.circ_expansion.specs.Expand.{Spending, Yields, Long, Past, Stopped, continued, counted, tested, all_tested, Layer, At_place, By_entry, Background}
use Rattle.circ_expansion.specs.Expand.{Call}
use Rattle.circ_expansion.specs.Expand.{Expander, base, whole_with, around, and_piece, and_pieces, by_way, followed_at, Basis, link_setting, bounds_of}
use Rattle.circ_expansion.specs.Expand.{hypothesis_call}
use Rattle.circ_expansion.specs.Expand.{links_written, cases_at, case_basis, case_call, whys_written, each_why, derive_call, simplified_call, basis_in, ex}
use Rattle.circ_expansion.specs.Expand.{Case, Visible_case, Place_case, Hidden_case, No_case, guard_case, paths_of, arg_sort, start_at, occurrence_call}
use Rattle.circ_expansion.specs.Expand.{occurrence_use}
use Rattle.circ_expansion.specs.Expand.{occurrences_written, derived_place, certified_call, no_basis, left_here, right_here, through_place, ly, single_use, uses}
use Rattle.circ_expansion.specs.Expand.{stood, link_terms, trail, place_terms}
use Rattle.circ_expansion.specs.Machine.{all_uses}

-- the units that are left are not more than there were
abbrev pub Spends : {A : Type 0} → (n : ℕ) → Spending A → Type 0
Spends n (Yields a m) = m ≤ n
Spends n Long = Unit {0}
Spends n (Past l) = Unit {0}
Spends n Stopped = Unit {0}

-- both are one, and spend units
pub record Alike {A : Type 0} (n : ℕ) (o p : Spending A) : Type 0 where
  pub same : o ≡ p
  pub spends : Spends n o

spends_fewer : {A : Type 0} (n k : ℕ) → k ≤ n → (o : Spending A) → Spends k o → Spends n o
spends_fewer n k l (Yields a m) s = omega (arith, l, s)
spends_fewer n k l Long s = tt
spends_fewer n k l (Past x) s = tt
spends_fewer n k l Stopped s = tt

alike_fewer : {A : Type 0} (n k : ℕ) → k ≤ n → (o p : Spending A) → Alike k o p → Alike n o p
alike_fewer n k l o p a = record { same = a.same; spends = spends_fewer n k l o a.spends }

alike_value : {A : Type 0} (n : ℕ) (a : A) → Alike n (Yields a n) (Yields a n)
alike_value n a = record { same = refl; spends = omega arith }

alike_stopped : {A : Type 0} (n : ℕ) → Alike {A = A} n Stopped Stopped
alike_stopped n = record { same = refl; spends = tt }

alike_on : {A B : Type 0} (n : ℕ) (o p : Spending A) (F G : A → ℕ → Spending B) → Alike n o p → ((a : A) (m : ℕ) → m ≤ n → Alike m (F a m) (G a m))
    → Alike n (continued o F) (continued p G)
alike_on {A = A} n o p F G a h = let P : Spending A → Type 0 = λ x. Alike n (continued o F) (continued x G) in subst P a.same (go o a.spends)
  where
    go : (o : Spending A) → Spends n o → Alike n (continued o F) (continued o G)
    go (Yields x m) s = alike_fewer n m s (F x m) (G x m) (h x m s)
    go Long s = record { same = refl; spends = tt }
    go (Past l) s = record { same = refl; spends = tt }
    go Stopped s = record { same = refl; spends = tt }

alike_counted : {A : Type 0} (n : ℕ) (F G : ℕ → Spending A) → ((k : ℕ) → k < n → Alike k (F k) (G k)) → Alike n (counted n F) (counted n G)
alike_counted zero F G h = record { same = refl; spends = tt }
alike_counted (suc n) F G h = alike_fewer (suc n) n (omega arith) (F n) (G n) (h n (omega arith))

alike_tested : {A : Type 0} (n : ℕ) (t : Tree) (o p : Spending A) → Alike n o p → Alike n (tested t o) (tested t p)
alike_tested {A = A} n t o p a = go (first_limit t)
  where
    go : (l : Option Limit) → Alike {A = A} n (option_map_or Past l o) (option_map_or Past l p)
    go None = a
    go (Some l) = record { same = refl; spends = tt }

alike_all_tested : {A : Type 0} (n : ℕ) (ts : List Tree) (o p : Spending A) → Alike n o p → Alike n (all_tested ts o) (all_tested ts p)
alike_all_tested n [] o p a = a
alike_all_tested n (t ∷ ts) o p a = alike_tested n t (all_tested ts o) (all_tested ts p) (alike_all_tested n ts o p a)

alike_piece : (x : Piece) (n : ℕ) (o p : Spending Pieces) → Alike n o p → Alike n (and_piece x o) (and_piece x p)
alike_piece x n o p a = alike_on n o p (λ xs m. Yields (more_pieces x xs) m) (λ xs m. Yields (more_pieces x xs) m) a
    (λ xs m l. alike_value m (more_pieces x xs))

alike_pieces : (ys : Pieces) (n : ℕ) (o p : Spending Pieces) → Alike n o p → Alike n (and_pieces ys o) (and_pieces ys p)
alike_pieces ys n o p a =
    alike_on n o p (λ xs m. Yields (pieces_joined ys xs) m) (λ xs m. Yields (pieces_joined ys xs) m) a (λ xs m l. alike_value m (pieces_joined ys xs))

-- two expanders that are alike with fewer than so many units
abbrev AreAlike : Expander → Expander → (units : ℕ) → Type 0
AreAlike run ran k = (c : Call) (n : ℕ) → n < k → Alike n (run c n) (ran c n)

module _ (f : Background) (run ran : Expander) (k : ℕ) (same : AreAlike run ran k) where
  links_alike : (c : Call) (b : Basis) (ls : List (LinkOf Tree)) (t : Tree) (n : ℕ) → n ≤ k
      → Alike n (links_written run f c b ls t n) (links_written ran f c b ls t n)
  links_alike c b [] t n le = alike_value n no_piece
  links_alike c b (Equation_link number way path terms conds ∷ ls) t n le =
      let u : Tree = led (link_setting f b) (Equation_link number way path terms conds) t in
      let vs : List Tree = map (instance c.by) terms in
      let x : Piece = Equation_piece number way (base c ++ path) vs in
      let L : ℕ → Spending Pieces = λ m. links_written run f c b ls u m in
      let R : ℕ → Spending Pieces = λ m. links_written ran f c b ls u m in
      let T : (ℕ → Spending Pieces) → ℕ → Spending Pieces = λ o m. tested (around c u) (and_piece x (o m)) in
      alike_all_tested n (link_terms (link_setting f b) (Equation_link number way path terms conds) t)
      (counted n (λ m. all_tested vs (T L m))) (counted n (λ m. all_tested vs (T R m)))
      (alike_counted n (λ m. all_tested vs (T L m)) (λ m. all_tested vs (T R m)) (λ j lt.
      alike_all_tested j vs (T L j) (T R j)
      (alike_tested j (around c u) (and_piece x (L j)) (and_piece x (R j)) (alike_piece x j (L j) (R j) (links_alike c b ls u j (omega (arith, lt, le)))))))
  links_alike c b (Content_link op path term ∷ ls) t n le =
      let u : Tree = led (link_setting f b) (Content_link op path term) t in
      let old : Tree = unwrap_or (at t path) t in
      let x : Piece = Content_piece op (base c ++ path) old term (bounds_of c.by old term) in
      let L : ℕ → Spending Pieces = λ m. links_written run f c b ls u m in
      let R : ℕ → Spending Pieces = λ m. links_written ran f c b ls u m in
      let T : (ℕ → Spending Pieces) → ℕ → Spending Pieces = λ o m. tested (around c u) (and_piece x (o m)) in
      alike_all_tested n (link_terms (link_setting f b) (Content_link op path term) t)
      (counted n (λ m. tested (instance c.by term) (T L m))) (counted n (λ m. tested (instance c.by term) (T R m)))
      (alike_counted n (λ m. tested (instance c.by term) (T L m)) (λ m. tested (instance c.by term) (T R m)) (λ j lt.
      alike_tested j (instance c.by term) (T L j) (T R j)
      (alike_tested j (around c u) (and_piece x (L j)) (and_piece x (R j)) (alike_piece x j (L j) (R j) (links_alike c b ls u j (omega (arith, lt, le)))))))
  links_alike c b (Assumption_link number way path ∷ ls) t n le =
      let u : Tree = led (link_setting f b) (Assumption_link number way path) t in
      let x : Piece = Assumption_piece (b.raised + number) way (base c ++ path) in
      let L : ℕ → Spending Pieces = λ m. links_written run f c b ls u m in
      let R : ℕ → Spending Pieces = λ m. links_written ran f c b ls u m in
      let T : (ℕ → Spending Pieces) → ℕ → Spending Pieces = λ o m. tested (around c u) (and_piece x (o m)) in
      alike_all_tested n (link_terms (link_setting f b) (Assumption_link number way path) t) (counted n (T L)) (counted n (T R))
      (alike_counted n (T L) (T R) (λ j lt.
      alike_tested j (around c u) (and_piece x (L j)) (and_piece x (R j)) (alike_piece x j (L j) (R j) (links_alike c b ls u j (omega (arith, lt, le))))))
  links_alike c b (Hypothesis_link number way path terms conds ∷ ls) t n le =
      let u : Tree = led (link_setting f b) (Hypothesis_link number way path terms conds) t in
      let vs : List Tree = map (instance c.by) terms in
      let h : Followed = followed_at b.hypotheses number in
      let d : Call = hypothesis_call f c h way path t u (by_terms (goal_in h.history) vs) in
      let F : Pieces → ℕ → Spending Pieces = λ xs i. and_pieces (by_way way xs) (links_written run f c b ls u i) in
      let G : Pieces → ℕ → Spending Pieces = λ xs i. and_pieces (by_way way xs) (links_written ran f c b ls u i) in
      let L : ℕ → Spending Pieces = λ m. tested (around c u) (continued (run d m) F) in
      let R : ℕ → Spending Pieces = λ m. tested (around c u) (continued (ran d m) G) in
      alike_all_tested n (link_terms (link_setting f b) (Hypothesis_link number way path terms conds) t ++ stood c t)
      (counted n (λ m. all_tested vs (L m))) (counted n (λ m. all_tested vs (R m)))
      (alike_counted n (λ m. all_tested vs (L m)) (λ m. all_tested vs (R m)) (λ j lt.
      alike_all_tested j vs (L j) (R j)
      (alike_tested j (around c u) (continued (run d j) F) (continued (ran d j) G)
      (alike_on j (run d j) (ran d j) F G (same d j (omega (arith, lt, le))) (λ xs i li.
      alike_pieces (by_way way xs) i (links_written run f c b ls u i) (links_written ran f c b ls u i)
      (links_alike c b ls u i (omega (arith, li, lt, le))))))))

  mutual
    whys_alike : (c : Call) (b : Basis) (w : WhyOf Tree) (s t : Tree) (n : ℕ) → n ≤ k
        → Alike n (whys_written run f c b w s t n) (whys_written ran f c b w s t n)
    whys_alike c b (Same_why chain) s t n le =
        let V : Pieces → Pieces → ℕ → Spending Pieces = λ xs ys j. Yields (pieces_joined xs (turned ys)) j in
        let F : Pieces → ℕ → Spending Pieces = λ xs m. continued (links_written run f c b chain.right t m) (V xs) in
        let G : Pieces → ℕ → Spending Pieces = λ xs m. continued (links_written ran f c b chain.right t m) (V xs) in
        alike_on n (links_written run f c b chain.left s n) (links_written ran f c b chain.left s n) F G (links_alike c b chain.left s n le) (λ xs m lm.
        alike_on m (links_written run f c b chain.right t m) (links_written ran f c b chain.right t m) (V xs) (V xs)
        (links_alike c b chain.right t m (omega (arith, lm, le))) (λ ys j lj. alike_value j (pieces_joined xs (turned ys))))
    whys_alike c b (Split_why chain term ws) s t n le =
        let u : Tree = instance c.by term in
        let l : CaseList = cases_at run f (sort_of term) in
        let y : Tree = led_all (link_setting f b) chain.left s in
        let z : Tree = led_all (link_setting f b) chain.right t in
        let V : Pieces → Pieces → Parts → ℕ → Spending Pieces = λ xs ys ps i. Yields (pieces_joined xs (more_pieces (Cases_piece u ps) (turned ys))) i in
        let L : Pieces → Pieces → ℕ → Spending Pieces = λ xs ys i. tested u (continued (each_why run f c b ws term l l.constants y z i) (V xs ys)) in
        let R : Pieces → Pieces → ℕ → Spending Pieces = λ xs ys i. tested u (continued (each_why ran f c b ws term l l.constants y z i) (V xs ys)) in
        let F : Pieces → ℕ → Spending Pieces = λ xs m. continued (links_written run f c b chain.right t m) (λ ys j. counted j (L xs ys)) in
        let G : Pieces → ℕ → Spending Pieces = λ xs m. continued (links_written ran f c b chain.right t m) (λ ys j. counted j (R xs ys)) in
        alike_all_tested n (trail (link_setting f b) chain.left s ++ trail (link_setting f b) chain.right t)
        (continued (links_written run f c b chain.left s n) F) (continued (links_written ran f c b chain.left s n) G)
        (alike_on n (links_written run f c b chain.left s n) (links_written ran f c b chain.left s n) F G (links_alike c b chain.left s n le) (λ xs m lm.
        alike_on m (links_written run f c b chain.right t m) (links_written ran f c b chain.right t m) (λ ys j. counted j (L xs ys))
        (λ ys j. counted j (R xs ys))
        (links_alike c b chain.right t m (omega (arith, lm, le))) (λ ys j lj.
        alike_counted j (L xs ys) (R xs ys) (λ i li.
        alike_tested i u (continued (each_why run f c b ws term l l.constants y z i) (V xs ys))
        (continued (each_why ran f c b ws term l l.constants y z i) (V xs ys))
        (alike_on i (each_why run f c b ws term l l.constants y z i) (each_why ran f c b ws term l l.constants y z i) (V xs ys) (V xs ys)
        (each_alike c b ws term l l.constants y z i (omega (arith, li, lj, lm, le)))
        (λ ps e le2. alike_value e (pieces_joined xs (more_pieces (Cases_piece u ps) (turned ys)))))))))

    each_alike : (c : Call) (b : Basis) (ws : WhysOf Tree) (v : Tree) (l : CaseList) (ks : List ℕ) (s t : Tree) (n : ℕ) → n ≤ k
        → Alike n (each_why run f c b ws v l ks s t n) (each_why ran f c b ws v l ks s t n)
    each_alike c b no_why v l ks s t n le = alike_value n no_part
    each_alike c b (more_whys w ws) v l [] s t n le = alike_value n no_part
    each_alike c b (more_whys w ws) v l (j ∷ ks) s t n le =
        let d : Call = case_call run f c s (is_case (instance c.by v) l j) in
        let e : Basis = case_basis run f b (is_case v l j) in
        let V : Pieces → Parts → ℕ → Spending Parts = λ p ps i. Yields (more_parts p ps) i in
        let F : Pieces → ℕ → Spending Parts = λ p m. continued (each_why run f c b ws v l ks s t m) (V p) in
        let G : Pieces → ℕ → Spending Parts = λ p m. continued (each_why ran f c b ws v l ks s t m) (V p) in
        alike_all_tested n (instance c.by v ∷ stood c s) (continued (whys_written run f d e w s t n) F) (continued (whys_written ran f d e w s t n) G)
        (alike_on n (whys_written run f d e w s t n) (whys_written ran f d e w s t n) F G (whys_alike d e w s t n le) (λ p m lm.
        alike_on m (each_why run f c b ws v l ks s t m) (each_why ran f c b ws v l ks s t m) (V p) (V p)
        (each_alike c b ws v l ks s t m (omega (arith, lm, le))) (λ ps i li. alike_value i (more_parts p ps))))

  ex_alike : (c : Call) (h : History) (cs : List Numbered) (n : ℕ) → n ≤ k → Alike n (ex run f c h cs n) (ex ran f c h cs n)
  ex_alike c Open cs n le = alike_stopped n
  ex_alike c (Simplified g chain h) cs n le =
      let b : Basis = basis_in run f c in
      let d : Call = simplified_call run f c (led_all (link_setting f b) chain.left g.left) h in
      let V : Pieces → Pieces → Pieces → ℕ → Spending Pieces = λ xs ys zs i. Yields (pieces_joined xs (pieces_joined zs (turned ys))) i in
      let L : Pieces → Pieces → ℕ → Spending Pieces = λ xs ys i. continued (run d i) (V xs ys) in
      let R : Pieces → Pieces → ℕ → Spending Pieces = λ xs ys i. continued (ran d i) (V xs ys) in
      let F : Pieces → ℕ → Spending Pieces = λ xs m. continued (links_written run f c b chain.right g.right m) (λ ys j. counted j (L xs ys)) in
      let G : Pieces → ℕ → Spending Pieces = λ xs m. continued (links_written ran f c b chain.right g.right m) (λ ys j. counted j (R xs ys)) in
      alike_all_tested n (trail (link_setting f b) chain.left g.left)
      (continued (links_written run f c b chain.left g.left n) F) (continued (links_written ran f c b chain.left g.left n) G)
      (alike_on n (links_written run f c b chain.left g.left n) (links_written ran f c b chain.left g.left n) F G (links_alike c b chain.left g.left n le)
      (λ xs m lm.
      alike_on m (links_written run f c b chain.right g.right m) (links_written ran f c b chain.right g.right m)
      (λ ys j. counted j (L xs ys)) (λ ys j. counted j (R xs ys))
      (links_alike c b chain.right g.right m (omega (arith, lm, le))) (λ ys j lj.
      alike_counted j (L xs ys) (R xs ys) (λ i li.
      alike_on i (run d i) (ran d i) (V xs ys) (V xs ys) (same d i (omega (arith, li, lj, lm, le)))
      (λ zs y ly. alike_value y (pieces_joined xs (pieces_joined zs (turned ys))))))))
  ex_alike c (Reduced_by g why) cs n le = whys_alike c (basis_in run f c) why g.left g.right n le
  ex_alike c (Derived g children) [] n le = alike_stopped n
  ex_alike c (Derived g children) (e ∷ cs) n le =
      let d : Call = derive_call run f c g children e cs in
      alike_counted n (run d) (ran d) (λ j lt. same d j (omega (arith, lt, le)))

  occurrence_alike : (x : Case) (c : Call) (n : ℕ) → n < k → Alike n (occurrence_use run f x c n) (occurrence_use ran f x c n)
  occurrence_alike (Visible_case j q) c n lt = same c n lt
  occurrence_alike Place_case c n lt = same c n lt
  occurrence_alike (Hidden_case j q) c n lt = same c n lt
  occurrence_alike No_case c n lt = alike_stopped n

  occurrences_alike : (c : Call) (xs : List Layer) (b last : Tree) (ps : List (List ℕ)) (here : Tree) (n : ℕ) → n ≤ k
      → Alike n (occurrences_written run f c xs b last ps here n) (occurrences_written ran f c xs b last ps here n)
  occurrences_alike c xs b last [] here n le = alike_value n no_piece
  occurrences_alike c xs b last (p ∷ ps) here n le =
      let x : Case = guard_case f.theory f.places last p in
      let d : Call = occurrence_call run f c xs here p x in
      let v : Tree = put_or_same here p b in
      let F : Pieces → ℕ → Spending Pieces = λ ys i. and_pieces ys (occurrences_written run f c xs b last ps v i) in
      let G : Pieces → ℕ → Spending Pieces = λ ys i. and_pieces ys (occurrences_written ran f c xs b last ps v i) in
      let L : ℕ → Spending Pieces = λ m. continued (occurrence_use run f x d m) F in
      let R : ℕ → Spending Pieces = λ m. continued (occurrence_use ran f x d m) G in
      alike_all_tested n (here ∷ whole_with c here ∷ []) (counted n (λ m. tested v (tested (whole_with c v) (L m))))
      (counted n (λ m. tested v (tested (whole_with c v) (R m))))
      (alike_counted n (λ m. tested v (tested (whole_with c v) (L m))) (λ m. tested v (tested (whole_with c v) (R m))) (λ j lt.
      alike_tested j v (tested (whole_with c v) (L j)) (tested (whole_with c v) (R j)) (alike_tested j (whole_with c v) (L j) (R j)
      (alike_on j (occurrence_use run f x d j) (occurrence_use ran f x d j) F G (occurrence_alike x d j (omega (arith, lt, le))) (λ ys i li.
      alike_pieces ys i (occurrences_written run f c xs b last ps v i) (occurrences_written ran f c xs b last ps v i)
      (occurrences_alike c xs b last ps v i (omega (arith, li, lt, le))))))))

  through_alike : (c : Call) (g : Place) (s : ℕ) (ts : Trees) (xs : List Layer) (cs : List Numbered) (n : ℕ) → n ≤ k
      → Alike n (through_place run f c g s ts xs cs n) (through_place ran f c g s ts xs cs n)
  through_alike c g s ts xs [] n le = alike_stopped n
  through_alike c g s ts xs (e ∷ cs) n le =
      let start : Tree = start_at f.theory g e.entry.derivative in
      let ls : List (LinkOf Tree) = f.certificate g e.number in
      let σ : Substitution = matching start (derived_place run f g s ts e.entry (left_here run f c xs)) in
      let τ : Substitution = matching start (derived_place run f g s ts e.entry (right_here run f c xs)) in
      let b : Basis = no_basis run f in
      let last : Tree = led_all (link_setting f b) ls start in
      let paths : List (List ℕ) = paths_of 0 (arg_sort f.theory g) last in
      let cl : Call = certified_call run f c cs σ in
      let cr : Call = certified_call run f c cs τ in
      let co : Call = record c { entries = cs } in
      let y : Tree = right_here run f c xs in
      let V : Pieces → Pieces → Pieces → ℕ → Spending Pieces = λ l r o j. Yields (pieces_joined l (pieces_joined o (turned r))) j in
      let F2 : Pieces → Pieces → ℕ → Spending Pieces = λ l r j. continued (occurrences_written run f co xs y last paths (instance σ last) j) (V l r) in
      let G2 : Pieces → Pieces → ℕ → Spending Pieces = λ l r j. continued (occurrences_written ran f co xs y last paths (instance σ last) j) (V l r) in
      let F : Pieces → ℕ → Spending Pieces = λ l m. continued (links_written run f cr b ls start m) (F2 l) in
      let G : Pieces → ℕ → Spending Pieces = λ l m. continued (links_written ran f cr b ls start m) (G2 l) in
      alike_all_tested n (place_terms run f c g s ts xs e) (continued (links_written run f cl b ls start n) F) (continued (links_written ran f cl b ls start n) G)
      (alike_on n (links_written run f cl b ls start n) (links_written ran f cl b ls start n) F G (links_alike cl b ls start n le) (λ l m lm.
      alike_on m (links_written run f cr b ls start m) (links_written ran f cr b ls start m) (F2 l) (G2 l)
      (links_alike cr b ls start m (omega (arith, lm, le))) (λ r j lj.
      alike_on j (occurrences_written run f co xs y last paths (instance σ last) j) (occurrences_written ran f co xs y last paths (instance σ last) j)
      (V l r) (V l r)
      (occurrences_alike co xs y last paths (instance σ last) j (omega (arith, lj, lm, le)))
      (λ o i li. alike_value i (pieces_joined l (pieces_joined o (turned r)))))))

  ly_alike : (c : Call) (xs : List Layer) (n : ℕ) → n ≤ k → Alike n (ly run f c xs n) (ly ran f c xs n)
  ly_alike c [] n le =
      let d : Call = record c { along = None } in
      alike_counted n (run d) (ran d) (λ j lt. same d j (omega (arith, lt, le)))
  ly_alike c (By_entry e ∷ xs) n le =
      let d : Call = record c { entries = e ∷ c.entries; along = Some xs } in
      alike_counted n (run d) (ran d) (λ j lt. same d j (omega (arith, lt, le)))
  ly_alike c (At_place g s i ts ∷ xs) n le = through_alike c (place g i) s ts xs c.entries n le

  pub single_alike : (c : Call) (n : ℕ) → n ≤ k → Alike n (single_use run f c n) (single_use ran f c n)
  single_alike c n le =
      alike_tested n c.whole (option_map_or (λ xs. ly run f c xs n) c.along (ex run f c c.goal.history c.entries n))
      (option_map_or (λ xs. ly ran f c xs n) c.along (ex ran f c c.goal.history c.entries n)) (go c.along)
    where
      go : (o : Option (List Layer)) → Alike n (option_map_or (λ xs. ly run f c xs n) o (ex run f c c.goal.history c.entries n))
          (option_map_or (λ xs. ly ran f c xs n) o (ex ran f c c.goal.history c.entries n))
      go None = ex_alike c c.goal.history c.entries n le
      go (Some xs) = ly_alike c xs n le

pub uses_alike : (f : Background) (d e : ℕ) (c : Call) (n : ℕ) → n < d → n < e → Alike n (uses d f c n) (uses e f c n)
uses_alike f zero e c n ld le = absurd (omega (arith, ld))
uses_alike f (suc d) zero c n ld le = absurd (omega (arith, le))
uses_alike f (suc d) (suc e) c n ld le =
    single_alike f (uses d f) (uses e f) n (λ b m lt. uses_alike f d e b m (omega (arith, lt, ld)) (omega (arith, lt, le))) c n (omega arith)

-- a use is one round of what all uses are
pub one_round : (f : Background) (c : Call) (n : ℕ) → all_uses f c n ≡ single_use (all_uses f) f c n
one_round f c n = (single_alike f (uses n f) (all_uses f) n (λ b m lt. uses_alike f n (suc m) b m lt (omega arith)) c n (omega arith)).same
