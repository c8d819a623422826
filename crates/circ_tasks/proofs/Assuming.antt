-- Of the assumptions of a use only their number plays a part in what is written.
use Rattle.std.proofs.Common.{◌≡◌, ℕ, ◌+◌, Bool, true, false, List, [], ◌∷◌, ◌++◌, zero, suc, map, length, Option, Some, None, unwrap_or, if◌then◌else◌, refl, ap, sym, ◌∙◌}
use Rattle.std.specs.Option.{option_map_or}
use Rattle.circ_term.specs.Tree.{Tree, Trees, sort_of, at}
use Rattle.circ_term.specs.Limits.{Limit, first_limit}
use Rattle.circ_term.specs.Substitution.{Substitution, instance}
use Rattle.circ_theory.specs.Theory.{Pair, CaseList}
use Rattle.circ_theory.specs.Derivable.{is_case}
use Rattle.circ_theory.specs.Observing.{is_hidden}
use Rattle.circ_theory.specs.Rewriting.{by_terms}
use Rattle.circ_theory.specs.declared.way.Way.{Way}
use Rattle.circ_rewrite.specs.Matching.{matching}
use Rattle.circ_special.specs.declared.place.Place.{Place}
use Rattle.circ_special.specs.Special.{place}
use Rattle.circ_proof.specs.Plain.{LinkOf, Equation_link, Hypothesis_link, Assumption_link, Content_link, WhyOf, WhysOf, Same_why, Split_why, no_why}
use Rattle.circ_proof.specs.Plain.{more_whys}
use Rattle.circ_entry.specs.Entries.{Numbered}
use Rattle.circ_expansion.specs.Followed.{History, Simplified, Reduced_by, Derived, Open, Followed, goal_in, put_or_same, led, led_all}
use Rattle.circ_expansion.specs.Pieces.{Piece, Pieces, Parts, Equation_piece, Content_piece, Assumption_piece, Cases_piece, no_piece, more_pieces, more_parts}
use Rattle.circ_expansion.specs.Pieces.{pieces_joined, turned}
use Rattle.circ_expansion.specs.Expand.{Spending, Yields, Long, Past, Stopped, continued, counted, tested, all_tested, Layer, At_place, By_entry, Background}
use Rattle.circ_expansion.specs.Expand.{Call, Expander, base, whole_with, around, and_piece, and_pieces, by_way, followed_at, Basis, basis, link_setting, bounds_of}
use Rattle.circ_expansion.specs.Expand.{start_of, places_on, hypothesis_call, links_written, cases_at, case_basis, case_call, whys_written, each_why, derive_call, simplified_call}
use Rattle.circ_expansion.specs.Expand.{basis_in, ex, ly, single_use, uses, Case, Visible_case, Place_case, Hidden_case, No_case, guard_case, paths_of, arg_sort}
use Rattle.circ_expansion.specs.Expand.{start_at, occurrence_call, occurrence_use, occurrences_written, derived_place, certified_call, no_basis, left_here}
use Rattle.circ_expansion.specs.Expand.{right_here, through_place, stood, link_terms, trail, place_terms}
use Rattle.circ_expansion.specs.Machine.{all_uses}
use Rattle.circ_expansion.proofs.Alike.{ext, longer}

-- under these assumptions
abbrev pub under : List Pair → Call → Call
under A c = record c { assumptions = A }

abbrev pub CountsThem : Expander → Type 0
CountsThem run = (c : Call) (A B : List Pair) → length A ≡ length B → (n : ℕ) → run (under A c) n ≡ run (under B c) n

both_same : {X Y : Type 0} (o p : Spending X) (F G : X → ℕ → Spending Y) → o ≡ p → ((x : X) (n : ℕ) → F x n ≡ G x n) → continued o F ≡ continued p G
both_same o p F G e h = ap (λ q. continued q F) e ∙ ap (continued p) (ext (λ x. ext (h x)))

counted_same : {X : Type 0} (ts : List Tree) (n : ℕ) (F G : ℕ → Spending X) → ((m : ℕ) → F m ≡ G m) → all_tested ts (counted n F) ≡ all_tested ts (counted n G)
counted_same ts n F G h = ap (λ H. all_tested ts (counted n H)) (ext h)

hypothesis_under : (A : List Pair) (f : Background) (c : Call) (h : Followed) (way : Way) (path : List ℕ) (t u : Tree) (τ : Substitution)
    → hypothesis_call f (under A c) h way path t u τ ≡ under A (hypothesis_call f c h way path t u τ)
hypothesis_under A f c h way path t u τ = go (is_hidden f.theory (sort_of (goal_in h.history).left))
  where
    w : Tree
    w = start_of way (around c t) (around c u)

    go : (b : Bool)
        → (if b
        then record (under A c) { whole = w; along = Some (places_on (instance c.by t) path); goal = h; by = τ }
        else record (under A c) { whole = w; path = base c ++ path; entries = []; along = None; goal = h; by = τ })
        ≡ under A (if b
        then record c { whole = w; along = Some (places_on (instance c.by t) path); goal = h; by = τ }
        else record c { whole = w; path = base c ++ path; entries = []; along = None; goal = h; by = τ })
    go true = refl
    go false = refl

module _ (run : Expander) (f : Background) (same : CountsThem run) where
  occurrence_under : (A : List Pair) (c : Call) (xs : List Layer) (here : Tree) (p : List ℕ) (k : Case)
      → occurrence_call run f (under A c) xs here p k ≡ under A (occurrence_call run f c xs here p k)
  occurrence_under A c xs here p (Visible_case k q) = refl
  occurrence_under A c xs here p Place_case = refl
  occurrence_under A c xs here p (Hidden_case k q) = refl
  occurrence_under A c xs here p No_case = refl

  module _ (c : Call) (A B : List Pair) (e : length A ≡ length B) where
    used_same : (d : List Pair → Call) → ((X : List Pair) → d X ≡ under X (d A)) → (n : ℕ) → run (d A) n ≡ run (d B) n
    used_same d h n = ap (λ x. run x n) (h A) ∙ same (d A) A B e n ∙ ap (λ x. run x n) (sym (h B))

    links_same : (b : Basis) (ls : List (LinkOf Tree)) (t : Tree) (n : ℕ) → links_written run f (under A c) b ls t n ≡ links_written run f (under B c) b ls t n
    links_same b [] t n = refl
    links_same b (Equation_link number way path terms conds ∷ ls) t n =
        let u : Tree = led (link_setting f b) (Equation_link number way path terms conds) t in
        let ts : List Tree = map (instance c.by) terms in
        let x : Piece = Equation_piece number way (base c ++ path) ts in
        let L : List Pair → ℕ → Spending Pieces = λ X m. links_written run f (under X c) b ls u m in
        counted_same (link_terms (link_setting f b) (Equation_link number way path terms conds) t) n
        (λ m. all_tested ts (tested (around c u) (and_piece x (L A m)))) (λ m. all_tested ts (tested (around c u) (and_piece x (L B m))))
        (λ m. ap (λ o. all_tested ts (tested (around c u) (and_piece x o))) (links_same b ls u m))
    links_same b (Content_link op path term ∷ ls) t n =
        let u : Tree = led (link_setting f b) (Content_link op path term) t in
        let old : Tree = unwrap_or (at t path) t in
        let x : Piece = Content_piece op (base c ++ path) old term (bounds_of c.by old term) in
        let L : List Pair → ℕ → Spending Pieces = λ X m. links_written run f (under X c) b ls u m in
        counted_same (link_terms (link_setting f b) (Content_link op path term) t) n
        (λ m. tested (instance c.by term) (tested (around c u) (and_piece x (L A m))))
        (λ m. tested (instance c.by term) (tested (around c u) (and_piece x (L B m))))
        (λ m. ap (λ o. tested (instance c.by term) (tested (around c u) (and_piece x o))) (links_same b ls u m))
    links_same b (Assumption_link number way path ∷ ls) t n =
        let u : Tree = led (link_setting f b) (Assumption_link number way path) t in
        let x : Piece = Assumption_piece (b.raised + number) way (base c ++ path) in
        let L : List Pair → ℕ → Spending Pieces = λ X m. links_written run f (under X c) b ls u m in
        counted_same (link_terms (link_setting f b) (Assumption_link number way path) t) n
        (λ m. tested (around c u) (and_piece x (L A m))) (λ m. tested (around c u) (and_piece x (L B m)))
        (λ m. ap (λ o. tested (around c u) (and_piece x o)) (links_same b ls u m))
    links_same b (Hypothesis_link number way path terms conds ∷ ls) t n =
        let u : Tree = led (link_setting f b) (Hypothesis_link number way path terms conds) t in
        let ts : List Tree = map (instance c.by) terms in
        let h : Followed = followed_at b.hypotheses number in
        let τ : Substitution = by_terms (goal_in h.history) ts in
        let d : List Pair → Call = λ X. hypothesis_call f (under X c) h way path t u τ in
        let F : List Pair → Pieces → ℕ → Spending Pieces = λ X xs k. and_pieces (by_way way xs) (links_written run f (under X c) b ls u k) in
        let L : List Pair → ℕ → Spending Pieces = λ X m. continued (run (d X) m) (F X) in
        let h0 = hypothesis_under A f c h way path t u τ in
        counted_same (link_terms (link_setting f b) (Hypothesis_link number way path terms conds) t ++ stood c t) n
        (λ m. all_tested ts (tested (around c u) (L A m))) (λ m. all_tested ts (tested (around c u) (L B m)))
        (λ m. ap (λ o. all_tested ts (tested (around c u) o)) (both_same (run (d A) m) (run (d B) m) (F A) (F B)
        (used_same d (λ X. hypothesis_under X f c h way path t u τ ∙ sym (ap (under X) (hypothesis_under A f c h way path t u τ))) m)
        (λ xs k. ap (and_pieces (by_way way xs)) (links_same b ls u k))))

  mutual
    whys_same : (c : Call) (A B : List Pair) → length A ≡ length B → (b : Basis) (w : WhyOf Tree) (s t : Tree) (n : ℕ)
        → whys_written run f (under A c) b w s t n ≡ whys_written run f (under B c) b w s t n
    whys_same c A B e b (Same_why chain) s t n =
        let V : Pieces → Pieces → ℕ → Spending Pieces = λ xs ys k. Yields (pieces_joined xs (turned ys)) k in
        let R : List Pair → Pieces → ℕ → Spending Pieces = λ X xs m. continued (links_written run f (under X c) b chain.right t m) (V xs) in
        both_same (links_written run f (under A c) b chain.left s n) (links_written run f (under B c) b chain.left s n) (R A) (R B)
        (links_same c A B e b chain.left s n) (λ xs m. ap (λ o. continued o (V xs)) (links_same c A B e b chain.right t m))
    whys_same c A B e b (Split_why chain term ws) s t n =
        let u : Tree = instance c.by term in
        let l : CaseList = cases_at run f (sort_of term) in
        let y : Tree = led_all (link_setting f b) chain.left s in
        let z : Tree = led_all (link_setting f b) chain.right t in
        let V : Pieces → Pieces → Parts → ℕ → Spending Pieces = λ xs ys ps i. Yields (pieces_joined xs (more_pieces (Cases_piece u ps) (turned ys))) i in
        let W : List Pair → Pieces → Pieces → ℕ → Spending Pieces =
        λ X xs ys j. tested u (continued (each_why run f (under X c) b ws term l l.constants y z j) (V xs ys)) in
        let R : List Pair → Pieces → ℕ → Spending Pieces = λ X xs m. continued (links_written run f (under X c) b chain.right t m) (λ ys k. counted k (W X xs ys)) in
        ap (all_tested (trail (link_setting f b) chain.left s ++ trail (link_setting f b) chain.right t))
        (both_same (links_written run f (under A c) b chain.left s n) (links_written run f (under B c) b chain.left s n) (R A) (R B)
        (links_same c A B e b chain.left s n) (λ xs m.
        both_same (links_written run f (under A c) b chain.right t m) (links_written run f (under B c) b chain.right t m)
        (λ ys k. counted k (W A xs ys)) (λ ys k. counted k (W B xs ys))
        (links_same c A B e b chain.right t m) (λ ys k.
        counted_same [] k (W A xs ys) (W B xs ys) (λ j. ap (λ o. tested u (continued o (V xs ys))) (each_same c A B e b ws term l l.constants y z j)))))

    each_same : (c : Call) (A B : List Pair) → length A ≡ length B → (b : Basis) (ws : WhysOf Tree) (v : Tree) (l : CaseList) (ks : List ℕ) (s t : Tree) (n : ℕ)
        → each_why run f (under A c) b ws v l ks s t n ≡ each_why run f (under B c) b ws v l ks s t n
    each_same c A B e b no_why v l ks s t n = refl
    each_same c A B e b (more_whys w ws) v l [] s t n = refl
    each_same c A B e b (more_whys w ws) v l (k ∷ ks) s t n =
        let p : Pair = is_case (instance c.by v) l k in
        let d : Call = record c { whole = around c s } in
        let i : Basis = case_basis run f b (is_case v l k) in
        let V : Pieces → Parts → ℕ → Spending Parts = λ x ps j. Yields (more_parts x ps) j in
        let R : List Pair → Pieces → ℕ → Spending Parts = λ X x m. continued (each_why run f (under X c) b ws v l ks s t m) (V x) in
        ap (all_tested (instance c.by v ∷ stood c s))
        (both_same (whys_written run f (under (A ++ p ∷ []) d) i w s t n) (whys_written run f (under (B ++ p ∷ []) d) i w s t n) (R A) (R B)
        (whys_same d (A ++ p ∷ []) (B ++ p ∷ []) (longer A p ∙ ap suc e ∙ sym (longer B p)) i w s t n)
        (λ x m. ap (λ o. continued o (V x)) (each_same c A B e b ws v l ks s t m)))

  ex_same : (c : Call) (A B : List Pair) → length A ≡ length B → (h : History) (cs : List Numbered) (n : ℕ)
      → ex run f (under A c) h cs n ≡ ex run f (under B c) h cs n
  ex_same c A B e Open cs n = refl
  ex_same c A B e (Simplified g chain h) cs n =
      let b : ℕ → Basis = λ k. record (basis_in run f c) { raised = k } in
      let s : Tree = led_all (link_setting f (basis_in run f c)) chain.left g.left in
      let d : Call = simplified_call run f c s h in
      let V : Pieces → Pieces → Pieces → ℕ → Spending Pieces = λ xs ys zs i. Yields (pieces_joined xs (pieces_joined zs (turned ys))) i in
      let W : List Pair → Pieces → Pieces → ℕ → Spending Pieces = λ X xs ys j. continued (run (under X d) j) (V xs ys) in
      let R : ℕ → List Pair → Pieces → ℕ → Spending Pieces =
      λ k X xs m. continued (links_written run f (under X c) (b k) chain.right g.right m) (λ ys i. counted i (W X xs ys)) in
      let E : ℕ → List Pair → Spending Pieces = λ k X. continued (links_written run f (under X c) (b k) chain.left g.left n) (R k X) in
      let k : ℕ = length A in
      ap (all_tested (trail (link_setting f (basis_in run f c)) chain.left g.left))
      (both_same (links_written run f (under A c) (b k) chain.left g.left n) (links_written run f (under B c) (b k) chain.left g.left n) (R k A) (R k B)
      (links_same c A B e (b k) chain.left g.left n) (λ xs m.
      both_same (links_written run f (under A c) (b k) chain.right g.right m) (links_written run f (under B c) (b k) chain.right g.right m)
      (λ ys i. counted i (W A xs ys)) (λ ys i. counted i (W B xs ys))
      (links_same c A B e (b k) chain.right g.right m) (λ ys i.
      counted_same [] i (W A xs ys) (W B xs ys) (λ j. ap (λ o. continued o (V xs ys)) (same d A B e j))))
      ∙ ap (λ j. E j B) e)
  ex_same c A B e (Reduced_by g why) cs n =
      let b : ℕ → Basis = λ k. record (basis_in run f c) { raised = k } in
      whys_same c A B e (b (length A)) why g.left g.right n ∙ ap (λ k. whys_written run f (under B c) (b k) why g.left g.right n) e
  ex_same c A B e (Derived g children) [] n = refl
  ex_same c A B e (Derived g children) (x ∷ cs) n =
      let d : Call = derive_call run f c g children x cs in
      counted_same [] n (run (under A d)) (run (under B d)) (same d A B e)

  occurrence_same : (k : Case) (d : Call) (A B : List Pair) → length A ≡ length B → (n : ℕ) → occurrence_use run f k (under A d) n ≡ occurrence_use run f k (under B d) n
  occurrence_same (Visible_case k q) d A B e n = same d A B e n
  occurrence_same Place_case d A B e n = same d A B e n
  occurrence_same (Hidden_case k q) d A B e n = same d A B e n
  occurrence_same No_case d A B e n = refl

  occurrences_same : (c : Call) (A B : List Pair) → length A ≡ length B → (xs : List Layer) (b last : Tree) (ps : List (List ℕ)) (here : Tree) (n : ℕ)
      → occurrences_written run f (under A c) xs b last ps here n ≡ occurrences_written run f (under B c) xs b last ps here n
  occurrences_same c A B e xs b last [] here n = refl
  occurrences_same c A B e xs b last (p ∷ ps) here n =
      let k : Case = guard_case f.theory f.places last p in
      let v : Tree = put_or_same here p b in
      let d : Call = occurrence_call run f c xs here p k in
      let U : List Pair → ℕ → Spending Pieces = λ X m. occurrence_use run f k (occurrence_call run f (under X c) xs here p k) m in
      let F : List Pair → Pieces → ℕ → Spending Pieces = λ X ys i. and_pieces ys (occurrences_written run f (under X c) xs b last ps v i) in
      counted_same (here ∷ whole_with c here ∷ []) n
      (λ m. tested v (tested (whole_with c v) (continued (U A m) (F A)))) (λ m. tested v (tested (whole_with c v) (continued (U B m) (F B))))
      (λ m. ap (λ o. tested v (tested (whole_with c v) o)) (both_same (U A m) (U B m) (F A) (F B)
      (ap (λ x. occurrence_use run f k x m) (occurrence_under A c xs here p k) ∙ occurrence_same k d A B e m
      ∙ ap (λ x. occurrence_use run f k x m) (sym (occurrence_under B c xs here p k)))
      (λ ys i. ap (and_pieces ys) (occurrences_same c A B e xs b last ps v i))))

  through_same : (c : Call) (A B : List Pair) → length A ≡ length B → (g : Place) (s : ℕ) (ts : Trees) (xs : List Layer) (cs : List Numbered) (n : ℕ)
      → through_place run f (under A c) g s ts xs cs n ≡ through_place run f (under B c) g s ts xs cs n
  through_same c A B e g s ts xs [] n = refl
  through_same c A B e g s ts xs (x ∷ cs) n =
      let start : Tree = start_at f.theory g x.entry.derivative in
      let ls : List (LinkOf Tree) = f.certificate g x.number in
      let σ : Substitution = matching start (derived_place run f g s ts x.entry (left_here run f c xs)) in
      let τ : Substitution = matching start (derived_place run f g s ts x.entry (right_here run f c xs)) in
      let b : Basis = no_basis run f in
      let last : Tree = led_all (link_setting f b) ls start in
      let paths : List (List ℕ) = paths_of 0 (arg_sort f.theory g) last in
      let cl : Call = certified_call run f c cs σ in
      let cr : Call = certified_call run f c cs τ in
      let co : Call = record c { entries = cs } in
      let y : Tree = right_here run f c xs in
      let V : Pieces → Pieces → Pieces → ℕ → Spending Pieces = λ l r o j. Yields (pieces_joined l (pieces_joined o (turned r))) j in
      let O : List Pair → ℕ → Spending Pieces = λ X k. occurrences_written run f (under X co) xs y last paths (instance σ last) k in
      let R : List Pair → Pieces → ℕ → Spending Pieces = λ X l m. continued (links_written run f (under X cr) b ls start m) (λ r k. continued (O X k) (V l r)) in
      ap (all_tested (place_terms run f c g s ts xs x))
      (both_same (links_written run f (under A cl) b ls start n) (links_written run f (under B cl) b ls start n) (R A) (R B)
      (links_same cl A B e b ls start n) (λ l m.
      both_same (links_written run f (under A cr) b ls start m) (links_written run f (under B cr) b ls start m)
      (λ r k. continued (O A k) (V l r)) (λ r k. continued (O B k) (V l r)) (links_same cr A B e b ls start m)
      (λ r k. ap (λ o. continued o (V l r)) (occurrences_same co A B e xs y last paths (instance σ last) k))))

  ly_same : (c : Call) (A B : List Pair) → length A ≡ length B → (xs : List Layer) (n : ℕ) → ly run f (under A c) xs n ≡ ly run f (under B c) xs n
  ly_same c A B e [] n =
      let d : Call = record c { along = None } in
      counted_same [] n (run (under A d)) (run (under B d)) (same d A B e)
  ly_same c A B e (By_entry x ∷ xs) n =
      let d : Call = record c { entries = x ∷ c.entries; along = Some xs } in
      counted_same [] n (run (under A d)) (run (under B d)) (same d A B e)
  ly_same c A B e (At_place g s i ts ∷ xs) n = through_same c A B e (place g i) s ts xs c.entries n

  single_same : CountsThem (single_use run f)
  single_same c A B e n = ap (tested c.whole) (go c.along)
    where
      go : (o : Option (List Layer)) → option_map_or (λ xs. ly run f (under A c) xs n) o (ex run f (under A c) c.goal.history c.entries n)
          ≡ option_map_or (λ xs. ly run f (under B c) xs n) o (ex run f (under B c) c.goal.history c.entries n)
      go None = ex_same c A B e c.goal.history c.entries n
      go (Some xs) = ly_same c A B e xs n

uses_same : (f : Background) (k : ℕ) → CountsThem (uses k f)
uses_same f zero c A B e n = refl
uses_same f (suc k) c A B e n = single_same (uses k f) f (uses_same f k) c A B e n

all_same : (f : Background) → CountsThem (all_uses f)
all_same f c A B e n = uses_same f (suc n) c A B e n

-- a reason is given in the same way under other assumptions, as many
pub reason_same : (f : Background) (c : Call) (A B : List Pair) → length A ≡ length B → (b : Basis) (w : WhyOf Tree) (s t : Tree) (n : ℕ)
    → whys_written (all_uses f) f (under A c) b w s t n ≡ whys_written (all_uses f) f (under B c) b w s t n
reason_same f c A B e b w s t n = whys_same (all_uses f) f (all_same f) c A B e b w s t n
