-- A step of a task comes to the same as the task at once.
use Rattle.std.proofs.Common.{◌≡◌, ℕ, ◌+◌, List, [], ◌∷◌, ◌++◌, zero, suc, map, Option, Some, None, unwrap_or, refl, ap, sym, ◌∙◌}
use Rattle.std.specs.Option.{option_map_or}
use Rattle.circ_term.specs.Tree.{Tree, Trees, sort_of, at}
use Rattle.circ_term.specs.Limits.{Limit, first_limit}
use Rattle.circ_term.specs.Substitution.{Substitution, instance}
use Rattle.circ_theory.specs.Theory.{Theory, CaseList}
use Rattle.circ_theory.specs.Experiment.{on}
use Rattle.circ_theory.specs.Derivable.{is_case}
use Rattle.circ_theory.specs.Rewriting.{by_terms}
use Rattle.circ_theory.specs.declared.way.Way.TheVariants.{Forth, Back}
use Rattle.circ_rewrite.specs.Matching.{matching}
use Rattle.circ_special.specs.declared.place.Place.{Place}
use Rattle.circ_special.specs.Special.{place}
use Rattle.circ_proof.specs.Plain.{LinkOf, Equation_link, Hypothesis_link, Assumption_link, Content_link, WhyOf, WhysOf, Same_why, Split_why, no_why}
use Rattle.circ_proof.specs.Plain.{more_whys}
use Rattle.circ_proof.specs.Proof.{Proof}
use Rattle.circ_entry.specs.Entries.{Written, Numbered, numbered_entries, bare_entries}
use Rattle.circ_expansion.specs.Followed.{History, Simplified, Reduced_by, Derived, Open, Followed, goal_in, put_or_same, led, led_all, goals_of}
use Rattle.circ_expansion.specs.Pieces.{Piece, Pieces, Parts, Equation_piece, Content_piece, Assumption_piece, Cases_piece, no_piece, more_pieces, more_parts}
use Rattle.circ_expansion.specs.Pieces.{pieces_joined, turned}
use Rattle.circ_expansion.specs.Expand.{Spending, Yields, Long, Past, Stopped, continued, counted, tested, all_tested, Layer, At_place, By_entry, Background}
use Rattle.circ_expansion.specs.Expand.{Call}
use Rattle.circ_expansion.specs.Expand.{Expander, base, whole_with, around, and_piece, and_pieces, by_way, followed_at, Basis, link_setting, bounds_of}
use Rattle.circ_expansion.specs.Expand.{hypothesis_call}
use Rattle.circ_expansion.specs.Expand.{links_written, cases_at, case_basis, case_call, whys_written, each_why, derive_call, simplified_call, basis_in, ex, ly}
use Rattle.circ_expansion.specs.Expand.{single_use}
use Rattle.circ_expansion.specs.Expand.{Case, Visible_case, Place_case, Hidden_case, No_case, guard_case, paths_of, arg_sort, start_at, occurrence_call}
use Rattle.circ_expansion.specs.Expand.{occurrence_use}
use Rattle.circ_expansion.specs.Expand.{occurrences_written, derived_place, certified_call, no_basis, left_here, right_here, through_place, uses, background_of}
use Rattle.circ_expansion.specs.Expand.{expansion, stood, link_terms, trail, stages, place_terms}
use Rattle.circ_expansion.specs.Machine.{Value, In_row, In_parts, Task, Links, Give_reason, Give_reasons, Begin_use, Enter_use, Occurrences, Empty_row, Put_behind, Put_between}
use Rattle.circ_expansion.specs.Machine.{Add_part}
use Rattle.circ_expansion.specs.Machine.{Begin_split, End_split, Pending, pending, with_behind, put_behind, put_between, add_part, end_split, with_row}
use Rattle.circ_expansion.specs.Machine.{all_done, links_step, reason_step, reasons_step, goal_step, place_step, along_step, use_step, case_step}
use Rattle.circ_expansion.specs.Machine.{occurrences_step, task_step}
use Rattle.circ_expansion.specs.Machine.{all_uses, last_row, rest_done, opening_use, worked_off}
use Rattle.circ_expansion.proofs.Depth.{one_round}

-- ---- one thing after another

continued_twice : {A B C : Type 0} (o : Spending A) (F : A → ℕ → Spending B) (G : B → ℕ → Spending C)
    → continued (continued o F) G ≡ continued o (λ a n. continued (F a n) G)
continued_twice (Yields a n) F G = refl
continued_twice Long F G = refl
continued_twice (Past l) F G = refl
continued_twice Stopped F G = refl

continued_same : {A B : Type 0} (o : Spending A) (F G : A → ℕ → Spending B) → ((a : A) (n : ℕ) → F a n ≡ G a n) → continued o F ≡ continued o G
continued_same (Yields a n) F G h = h a n
continued_same Long F G h = refl
continued_same (Past l) F G h = refl
continued_same Stopped F G h = refl

tested_same : {A B C : Type 0} (t : Tree) (o : Spending A) (p : Spending B) (F : A → ℕ → Spending C) (G : B → ℕ → Spending C)
    → continued o F ≡ continued p G → continued (tested t o) F ≡ continued (tested t p) G
tested_same t o p F G e = go (first_limit t)
  where
    go : (l : Option Limit) → continued (option_map_or Past l o) F ≡ continued (option_map_or Past l p) G
    go None = e
    go (Some l) = refl

all_tested_same : {A B C : Type 0} (ts : List Tree) (o : Spending A) (p : Spending B) (F : A → ℕ → Spending C) (G : B → ℕ → Spending C)
    → continued o F ≡ continued p G → continued (all_tested ts o) F ≡ continued (all_tested ts p) G
all_tested_same [] o p F G e = e
all_tested_same (t ∷ ts) o p F G e = tested_same t (all_tested ts o) (all_tested ts p) F G (all_tested_same ts o p F G e)

counted_same : {A B C : Type 0} (n : ℕ) (o : ℕ → Spending A) (p : ℕ → Spending B) (F : A → ℕ → Spending C) (G : B → ℕ → Spending C)
    → ((k : ℕ) → continued (o k) F ≡ continued (p k) G) → continued (counted n o) F ≡ continued (counted n p) G
counted_same zero o p F G h = refl
counted_same (suc n) o p F G h = h n

-- the unit and the tests of a link
link_same : {A B C : Type 0} (n : ℕ) (ts : List Tree) (t : Tree) (o : ℕ → Spending A) (p : ℕ → Spending B) (F : A → ℕ → Spending C) (G : B → ℕ → Spending C)
    → ((k : ℕ) → continued (o k) F ≡ continued (p k) G)
    → continued (counted n (λ m. all_tested ts (tested t (o m)))) F ≡ continued (counted n (λ m. all_tested ts (tested t (p m)))) G
link_same n ts t o p F G h =
    counted_same n (λ m. all_tested ts (tested t (o m))) (λ m. all_tested ts (tested t (p m))) F G (λ k.
    all_tested_same ts (tested t (o k)) (tested t (p k)) F G (tested_same t (o k) (p k) F G (h k)))

joined_again : (xs ys zs : Pieces) → pieces_joined (pieces_joined xs ys) zs ≡ pieces_joined xs (pieces_joined ys zs)
joined_again no_piece ys zs = refl
joined_again (more_pieces x xs) ys zs = ap (more_pieces x) (joined_again xs ys zs)

joined_none : (xs : Pieces) → pieces_joined xs no_piece ≡ xs
joined_none no_piece = refl
joined_none (more_pieces x xs) = ap (more_pieces x) (joined_none xs)

-- ---- a task and those behind it

module _ (run : Expander) (f : Background) where
  -- what is left to do
  abbrev rest_of : Pending → ℕ → Spending (List Value)
  rest_of w n = all_done run f w.tasks w.values n

  -- what the tasks behind do with one row more behind the last row
  abbrev with_more : List Task → Pieces → List Value → Pieces → ℕ → Spending (List Value)
  with_more js v vs xs n = all_done run f js (In_row (pieces_joined v xs) ∷ vs) n

  behind_then : (js : List Task) (v : Pieces) (vs : List Value) (o : Spending Pieces)
      → continued (with_behind v vs o) (all_done run f js) ≡ continued o (with_more js v vs)
  behind_then js v vs o = continued_twice o (λ xs m. Yields (In_row (pieces_joined v xs) ∷ vs) m) (all_done run f js)

  row_then : (js : List Task) (vs : List Value) (o : Spending Pieces)
      → continued (with_row run f vs o) (all_done run f js) ≡ continued o (λ xs m. all_done run f js (In_row xs ∷ vs) m)
  row_then js vs o = continued_twice o (λ xs m. Yields (In_row xs ∷ vs) m) (all_done run f js)

  -- pieces that go before others, behind the last row
  pieces_go : (js : List Task) (v : Pieces) (vs : List Value) (ys : Pieces) (o : Spending Pieces)
      → continued (and_pieces ys o) (with_more js v vs) ≡ continued (with_behind (pieces_joined v ys) vs o) (all_done run f js)
  pieces_go js v vs ys o =
      continued_twice o (λ xs m. Yields (pieces_joined ys xs) m) (with_more js v vs)
      ∙ continued_same o (λ xs m. with_more js v vs (pieces_joined ys xs) m) (with_more js (pieces_joined v ys) vs)
      (λ xs m. ap (λ z. all_done run f js (In_row z ∷ vs) m) (sym (joined_again v ys xs)))
      ∙ sym (behind_then js (pieces_joined v ys) vs o)

  piece_goes : (js : List Task) (v : Pieces) (vs : List Value) (x : Piece) (o : Spending Pieces)
      → continued (and_piece x o) (with_more js v vs) ≡ continued (with_behind (pieces_joined v (more_pieces x no_piece)) vs o) (all_done run f js)
  piece_goes js v vs x o = pieces_go js v vs (more_pieces x no_piece) o

  links_right : (c : Call) (b : Basis) (ls : List (LinkOf Tree)) (t : Tree) (js : List Task) (v : Pieces) (vs : List Value) (n : ℕ)
      → continued (links_written run f c b ls t n) (with_more js v vs) ≡ continued (links_step run f c b ls t js v vs n) rest_of
  links_right c b [] t js v vs n = ap (λ z. all_done run f js (In_row z ∷ vs) n) (joined_none v)
  links_right c b (Equation_link number way path terms conds ∷ ls) t js v vs n =
      let u : Tree = led (link_setting f b) (Equation_link number way path terms conds) t in
      let ts : List Tree = map (instance c.by) terms in
      let x : Piece = Equation_piece number way (base c ++ path) ts in
      let L : ℕ → Spending Pieces = λ m. and_piece x (links_written run f c b ls u m) in
      let N : ℕ → Spending Pending = λ m. Yields (pending (Links c b ls u ∷ js) (In_row (pieces_joined v (more_pieces x no_piece)) ∷ vs)) m in
      all_tested_same (link_terms (link_setting f b) (Equation_link number way path terms conds) t)
      (counted n (λ m. all_tested ts (tested (around c u) (L m)))) (counted n (λ m. all_tested ts (tested (around c u) (N m)))) (with_more js v vs) rest_of
      (link_same n ts (around c u) L N (with_more js v vs) rest_of (λ k. piece_goes js v vs x (links_written run f c b ls u k)))
  links_right c b (Content_link op path term ∷ ls) t js v vs n =
      let u : Tree = led (link_setting f b) (Content_link op path term) t in
      let old : Tree = unwrap_or (at t path) t in
      let x : Piece = Content_piece op (base c ++ path) old term (bounds_of c.by old term) in
      let L : ℕ → Spending Pieces = λ m. and_piece x (links_written run f c b ls u m) in
      let N : ℕ → Spending Pending = λ m. Yields (pending (Links c b ls u ∷ js) (In_row (pieces_joined v (more_pieces x no_piece)) ∷ vs)) m in
      all_tested_same (link_terms (link_setting f b) (Content_link op path term) t)
      (counted n (λ m. tested (instance c.by term) (tested (around c u) (L m)))) (counted n (λ m. tested (instance c.by term) (tested (around c u) (N m))))
      (with_more js v vs) rest_of
      (link_same n (instance c.by term ∷ []) (around c u) L N (with_more js v vs) rest_of (λ k. piece_goes js v vs x (links_written run f c b ls u k)))
  links_right c b (Assumption_link number way path ∷ ls) t js v vs n =
      let u : Tree = led (link_setting f b) (Assumption_link number way path) t in
      let x : Piece = Assumption_piece (b.raised + number) way (base c ++ path) in
      let L : ℕ → Spending Pieces = λ m. and_piece x (links_written run f c b ls u m) in
      let N : ℕ → Spending Pending = λ m. Yields (pending (Links c b ls u ∷ js) (In_row (pieces_joined v (more_pieces x no_piece)) ∷ vs)) m in
      all_tested_same (link_terms (link_setting f b) (Assumption_link number way path) t)
      (counted n (λ m. tested (around c u) (L m))) (counted n (λ m. tested (around c u) (N m))) (with_more js v vs) rest_of
      (link_same n [] (around c u) L N (with_more js v vs) rest_of (λ k. piece_goes js v vs x (links_written run f c b ls u k)))
  links_right c b (Hypothesis_link number way path terms conds ∷ ls) t js v vs n =
      let u : Tree = led (link_setting f b) (Hypothesis_link number way path terms conds) t in
      let ts : List Tree = map (instance c.by) terms in
      let h : Followed = followed_at b.hypotheses number in
      let d : Call = hypothesis_call f c h way path t u (by_terms (goal_in h.history) ts) in
      let F : Pieces → ℕ → Spending Pieces = λ xs i. and_pieces (by_way way xs) (links_written run f c b ls u i) in
      let L : ℕ → Spending Pieces = λ m. continued (run d m) F in
      let N : ℕ → Spending Pending = λ m. Yields (pending (Enter_use d ∷ Put_behind way ∷ Links c b ls u ∷ js) (In_row v ∷ vs)) m in
      all_tested_same (link_terms (link_setting f b) (Hypothesis_link number way path terms conds) t ++ stood c t)
      (counted n (λ m. all_tested ts (tested (around c u) (L m)))) (counted n (λ m. all_tested ts (tested (around c u) (N m)))) (with_more js v vs) rest_of
      (link_same n ts (around c u) L N (with_more js v vs) rest_of (λ k.
      continued_twice (run d k) F (with_more js v vs)
      ∙ continued_same (run d k) (λ xs i. continued (F xs i) (with_more js v vs))
      (λ xs i. all_done run f (Links c b ls u ∷ js) (In_row (pieces_joined v (by_way way xs)) ∷ vs) i)
      (λ xs i. pieces_go js v vs (by_way way xs) (links_written run f c b ls u i))
      ∙ sym (row_then (Put_behind way ∷ Links c b ls u ∷ js) (In_row v ∷ vs) (run d k))))

  -- the links on two sides, each in a row of its own
  two_sides : (c d : Call) (b : Basis) (ls rs : List (LinkOf Tree)) (s t : Tree) (js : List Task) (vs : List Value) (n : ℕ)
      → all_done run f (Links c b ls s ∷ Empty_row ∷ Links d b rs t ∷ js) (In_row no_piece ∷ vs) n
      ≡ continued (links_written run f c b ls s n) (λ xs m. continued (links_written run f d b rs t m) (λ ys k. all_done run f js (In_row ys ∷ In_row xs ∷ vs) k))
  two_sides c d b ls rs s t js vs n =
      behind_then (Empty_row ∷ Links d b rs t ∷ js) no_piece vs (links_written run f c b ls s n)
      ∙ continued_same (links_written run f c b ls s n) (with_more (Empty_row ∷ Links d b rs t ∷ js) no_piece vs)
      (λ xs m. continued (links_written run f d b rs t m) (λ ys k. all_done run f js (In_row ys ∷ In_row xs ∷ vs) k))
      (λ xs m. behind_then js no_piece (In_row xs ∷ vs) (links_written run f d b rs t m))

  -- what is done with the rows of two sides
  sides_then : {A : Type 0} (c d : Call) (b : Basis) (ls rs : List (LinkOf Tree)) (s t : Tree) (n : ℕ) (F : Pieces → Pieces → ℕ → Spending A) (G : A → ℕ
      → Spending (List Value))
      → continued (continued (links_written run f c b ls s n) (λ xs m. continued (links_written run f d b rs t m) (F xs))) G
      ≡ continued (links_written run f c b ls s n) (λ xs m. continued (links_written run f d b rs t m) (λ ys k. continued (F xs ys k) G))
  sides_then c d b ls rs s t n F G =
      continued_twice (links_written run f c b ls s n) (λ xs m. continued (links_written run f d b rs t m) (F xs)) G
      ∙ continued_same (links_written run f c b ls s n) (λ xs m. continued (continued (links_written run f d b rs t m) (F xs)) G)
      (λ xs m. continued (links_written run f d b rs t m) (λ ys k. continued (F xs ys k) G))
      (λ xs m. continued_twice (links_written run f d b rs t m) (F xs) G)

  sides_same : (c d : Call) (b : Basis) (ls rs : List (LinkOf Tree)) (s t : Tree) (n : ℕ) (F G : Pieces → Pieces → ℕ → Spending (List Value))
      → ((xs ys : Pieces) (k : ℕ) → F xs ys k ≡ G xs ys k)
      → continued (links_written run f c b ls s n) (λ xs m. continued (links_written run f d b rs t m) (F xs))
      ≡ continued (links_written run f c b ls s n) (λ xs m. continued (links_written run f d b rs t m) (G xs))
  sides_same c d b ls rs s t n F G h =
      continued_same (links_written run f c b ls s n) (λ xs m. continued (links_written run f d b rs t m) (F xs))
      (λ xs m. continued (links_written run f d b rs t m) (G xs))
      (λ xs m. continued_same (links_written run f d b rs t m) (F xs) (G xs) (λ ys k. h xs ys k))

  reason_right : (c : Call) (b : Basis) (w : WhyOf Tree) (s t : Tree) (js : List Task) (vs : List Value) (n : ℕ)
      → continued (whys_written run f c b w s t n) (λ xs m. all_done run f js (In_row xs ∷ vs) m) ≡ continued (reason_step run f c b w s t js vs n) rest_of
  reason_right c b (Same_why chain) s t js vs n =
      sides_then c c b chain.left chain.right s t n (λ xs ys k. Yields (pieces_joined xs (turned ys)) k) (λ xs m. all_done run f js (In_row xs ∷ vs) m)
      ∙ sym (two_sides c c b chain.left chain.right s t (Put_behind Back ∷ js) vs n)
  reason_right c b (Split_why chain term ws) s t js vs n =
      let l : CaseList = cases_at run f (sort_of term) in
      let y : Tree = led_all (link_setting f b) chain.left s in
      let z : Tree = led_all (link_setting f b) chain.right t in
      let u : Tree = instance c.by term in
      let D : Pieces → ℕ → Spending (List Value) = λ xs m. all_done run f js (In_row xs ∷ vs) m in
      let V : Pieces → Pieces → Parts → ℕ → Spending Pieces = λ xs ys ps i. Yields (pieces_joined xs (more_pieces (Cases_piece u ps) (turned ys))) i in
      let E : ℕ → Spending Parts = λ i. each_why run f c b ws term l l.constants y z i in
      let F : Pieces → Pieces → ℕ → Spending Pieces = λ xs ys k. counted k (λ i. tested u (continued (E i) (V xs ys))) in
      let split : List Task = Give_reasons c b ws term l l.constants y z ∷ End_split u ∷ Put_between ∷ js in
      let begun : List Task = Links c b chain.left s ∷ Empty_row ∷ Links c b chain.right t ∷ Begin_split u ∷ split in
      all_tested_same (trail (link_setting f b) chain.left s ++ trail (link_setting f b) chain.right t)
      (continued (links_written run f c b chain.left s n) (λ xs m. continued (links_written run f c b chain.right t m) (F xs)))
      (Yields (pending begun (In_row no_piece ∷ vs)) n) D rest_of
      (sides_then c c b chain.left chain.right s t n F D
      ∙ sides_same c c b chain.left chain.right s t n (λ xs ys k. continued (F xs ys k) D)
      (λ xs ys k. all_done run f (Begin_split u ∷ split) (In_row ys ∷ In_row xs ∷ vs) k)
      (λ xs ys k. counted_same k (λ i. tested u (continued (E i) (V xs ys))) (λ i. tested u (Yields (In_row ys ∷ In_row xs ∷ vs) i)) D (all_done run f split) (λ i.
      tested_same u (continued (E i) (V xs ys)) (Yields (In_row ys ∷ In_row xs ∷ vs) i) D (all_done run f split)
      (continued_twice (E i) (V xs ys) D
      ∙ sym (continued_twice (E i) (λ ps m. Yields (In_parts ps ∷ In_row ys ∷ In_row xs ∷ vs) m) (all_done run f (End_split u ∷ Put_between ∷ js))))))
      ∙ sym (two_sides c c b chain.left chain.right s t (Begin_split u ∷ split) vs n))

  reasons_right : (c : Call) (b : Basis) (ws : WhysOf Tree) (v : Tree) (l : CaseList) (ks : List ℕ) (s t : Tree) (js : List Task) (vs : List Value) (n : ℕ)
      → continued (each_why run f c b ws v l ks s t n) (λ ps m. all_done run f js (In_parts ps ∷ vs) m) ≡ continued
      (reasons_step run f c b ws v l ks s t js vs n) rest_of
  reasons_right c b no_why v l ks s t js vs n = refl
  reasons_right c b (more_whys w ws) v l [] s t js vs n = refl
  reasons_right c b (more_whys w ws) v l (k ∷ ks) s t js vs n =
      let d : Call = case_call run f c s (is_case (instance c.by v) l k) in
      let e : Basis = case_basis run f b (is_case v l k) in
      let D : Parts → ℕ → Spending (List Value) = λ ps m. all_done run f js (In_parts ps ∷ vs) m in
      let W : Spending Pieces = whys_written run f d e w s t n in
      let E : ℕ → Spending Parts = λ m. each_why run f c b ws v l ks s t m in
      let F : Pieces → ℕ → Spending Parts = λ p m. continued (E m) (λ ps i. Yields (more_parts p ps) i) in
      all_tested_same (instance c.by v ∷ stood c s) (continued W F)
      (Yields (pending (Give_reason d e w s t ∷ Give_reasons c b ws v l ks s t ∷ Add_part ∷ js) vs) n) D rest_of
      (continued_twice W F D
      ∙ continued_same W (λ p m. continued (F p m) D) (λ p m. all_done run f (Give_reasons c b ws v l ks s t ∷ Add_part ∷ js) (In_row p ∷ vs) m)
      (λ p m. continued_twice (E m) (λ ps i. Yields (more_parts p ps) i) D
      ∙ sym (continued_twice (E m) (λ ps i. Yields (In_parts ps ∷ In_row p ∷ vs) i) (all_done run f (Add_part ∷ js))))
      ∙ sym (row_then (Give_reasons c b ws v l ks s t ∷ Add_part ∷ js) vs W))

  -- a use whose unit is counted
  begun_use : (d : Call) (js : List Task) (vs : List Value) (n : ℕ)
      → continued (counted n (run d)) (λ xs m. all_done run f js (In_row xs ∷ vs) m) ≡ all_done run f (Begin_use d ∷ js) vs n
  begun_use d js vs n = counted_same n (run d) (λ m. with_row run f vs (run d m)) (λ xs m. all_done run f js (In_row xs ∷ vs) m) (all_done run f js)
      (λ k. sym (row_then js vs (run d k)))

  goal_right : (c : Call) (h : History) (cs : List Numbered) (js : List Task) (vs : List Value) (n : ℕ)
      → continued (ex run f c h cs n) (λ xs m. all_done run f js (In_row xs ∷ vs) m) ≡ continued (goal_step run f c h cs js vs n) rest_of
  goal_right c Open cs js vs n = refl
  goal_right c (Simplified g chain h) cs js vs n =
      let b : Basis = basis_in run f c in
      let d : Call = simplified_call run f c (led_all (link_setting f b) chain.left g.left) h in
      let D : Pieces → ℕ → Spending (List Value) = λ xs m. all_done run f js (In_row xs ∷ vs) m in
      let V : Pieces → Pieces → Pieces → ℕ → Spending Pieces = λ xs ys zs i. Yields (pieces_joined xs (pieces_joined zs (turned ys))) i in
      let F : Pieces → Pieces → ℕ → Spending Pieces = λ xs ys k. counted k (λ i. continued (run d i) (V xs ys)) in
      let begun : List Task = Links c b chain.left g.left ∷ Empty_row ∷ Links c b chain.right g.right ∷ Begin_use d ∷ Put_between ∷ js in
      all_tested_same (trail (link_setting f b) chain.left g.left)
      (continued (links_written run f c b chain.left g.left n) (λ xs m. continued (links_written run f c b chain.right g.right m) (F xs)))
      (Yields (pending begun (In_row no_piece ∷ vs)) n) D rest_of
      (sides_then c c b chain.left chain.right g.left g.right n F D
      ∙ sides_same c c b chain.left chain.right g.left g.right n (λ xs ys k. continued (F xs ys k) D)
      (λ xs ys k. all_done run f (Begin_use d ∷ Put_between ∷ js) (In_row ys ∷ In_row xs ∷ vs) k)
      (λ xs ys k. counted_same k (λ i. continued (run d i) (V xs ys)) (λ i. with_row run f (In_row ys ∷ In_row xs ∷ vs) (run d i)) D
      (all_done run f (Put_between ∷ js)) (λ i.
      continued_twice (run d i) (V xs ys) D ∙ sym (row_then (Put_between ∷ js) (In_row ys ∷ In_row xs ∷ vs) (run d i))))
      ∙ sym (two_sides c c b chain.left chain.right g.left g.right (Begin_use d ∷ Put_between ∷ js) vs n))
  goal_right c (Reduced_by g why) cs js vs n = sym (row_then js vs (whys_written run f c (basis_in run f c) why g.left g.right n))
  goal_right c (Derived g children) [] js vs n = refl
  goal_right c (Derived g children) (e ∷ cs) js vs n = begun_use (derive_call run f c g children e cs) js vs n

  case_right : (x : Case) (d : Call) (js : List Task) (vs : List Value) (n : ℕ)
      → continued (occurrence_use run f x d n) (λ xs m. all_done run f js (In_row xs ∷ vs) m) ≡ continued (case_step run f x d js vs n) rest_of
  case_right (Visible_case k q) d js vs n = sym (row_then js vs (run d n))
  case_right Place_case d js vs n = sym (row_then js vs (run d n))
  case_right (Hidden_case k q) d js vs n = sym (row_then js vs (run d n))
  case_right No_case d js vs n = refl

  occurrences_right : (c : Call) (xs : List Layer) (b last : Tree) (ps : List (List ℕ)) (here : Tree) (js : List Task) (v : Pieces) (vs : List Value) (n : ℕ)
      → continued (occurrences_written run f c xs b last ps here n) (with_more js v vs) ≡ continued
      (occurrences_step run f c xs b last ps here js v vs n) rest_of
  occurrences_right c xs b last [] here js v vs n = ap (λ z. all_done run f js (In_row z ∷ vs) n) (joined_none v)
  occurrences_right c xs b last (p ∷ ps) here js v vs n =
      let x : Case = guard_case f.theory f.places last p in
      let d : Call = occurrence_call run f c xs here p x in
      let u : Tree = put_or_same here p b in
      let F : Pieces → ℕ → Spending Pieces = λ ys i. and_pieces ys (occurrences_written run f c xs b last ps u i) in
      let more : List Task = Put_behind Forth ∷ Occurrences c xs b last ps u ∷ js in
      let L : ℕ → Spending Pieces = λ m. continued (occurrence_use run f x d m) F in
      let N : ℕ → Spending Pending = λ m. case_step run f x d more (In_row v ∷ vs) m in
      all_tested_same (here ∷ whole_with c here ∷ []) (counted n (λ m. tested u (tested (whole_with c u) (L m))))
      (counted n (λ m. tested u (tested (whole_with c u) (N m)))) (with_more js v vs) rest_of
      (link_same n (u ∷ []) (whole_with c u) L N (with_more js v vs) rest_of (λ k.
      continued_twice (occurrence_use run f x d k) F (with_more js v vs)
      ∙ continued_same (occurrence_use run f x d k) (λ ys i. continued (F ys i) (with_more js v vs))
      (λ ys i. all_done run f (Occurrences c xs b last ps u ∷ js) (In_row (pieces_joined v ys) ∷ vs) i)
      (λ ys i. pieces_go js v vs ys (occurrences_written run f c xs b last ps u i))
      ∙ case_right x d more (In_row v ∷ vs) k))

  place_right : (c : Call) (g : Place) (s : ℕ) (ts : Trees) (xs : List Layer) (cs : List Numbered) (js : List Task) (vs : List Value) (n : ℕ)
      → continued (through_place run f c g s ts xs cs n) (λ ys m. all_done run f js (In_row ys ∷ vs) m) ≡ continued
      (place_step run f c g s ts xs cs js vs n) rest_of
  place_right c g s ts xs [] js vs n = refl
  place_right c g s ts xs (e ∷ cs) js vs n =
      let start : Tree = start_at f.theory g e.entry.derivative in
      let ls : List (LinkOf Tree) = f.certificate g e.number in
      let σ : Substitution = matching start (derived_place run f g s ts e.entry (left_here run f c xs)) in
      let τ : Substitution = matching start (derived_place run f g s ts e.entry (right_here run f c xs)) in
      let b : Basis = no_basis run f in
      let last : Tree = led_all (link_setting f b) ls start in
      let paths : List (List ℕ) = paths_of 0 (arg_sort f.theory g) last in
      let cl : Call = certified_call run f c cs σ in
      let cr : Call = certified_call run f c cs τ in
      let co : Call = record c { entries = cs } in
      let y : Tree = right_here run f c xs in
      let O : ℕ → Spending Pieces = λ k. occurrences_written run f co xs y last paths (instance σ last) k in
      let D : Pieces → ℕ → Spending (List Value) = λ zs m. all_done run f js (In_row zs ∷ vs) m in
      let V : Pieces → Pieces → Pieces → ℕ → Spending Pieces = λ l r o j. Yields (pieces_joined l (pieces_joined o (turned r))) j in
      let F : Pieces → Pieces → ℕ → Spending Pieces = λ l r k. continued (O k) (V l r) in
      let middle : List Task = Occurrences co xs y last paths (instance σ last) ∷ Put_between ∷ js in
      let begun : List Task = Links cl b ls start ∷ Empty_row ∷ Links cr b ls start ∷ Empty_row ∷ middle in
      all_tested_same (place_terms run f c g s ts xs e)
      (continued (links_written run f cl b ls start n) (λ l m. continued (links_written run f cr b ls start m) (F l)))
      (Yields (pending begun (In_row no_piece ∷ vs)) n) D rest_of
      (sides_then cl cr b ls ls start start n F D
      ∙ sides_same cl cr b ls ls start start n (λ l r k. continued (F l r k) D) (λ l r k. all_done run f (Empty_row ∷ middle) (In_row r ∷ In_row l ∷ vs) k)
      (λ l r k. continued_twice (O k) (V l r) D ∙ sym (behind_then (Put_between ∷ js) no_piece (In_row r ∷ In_row l ∷ vs) (O k)))
      ∙ sym (two_sides cl cr b ls ls start start (Empty_row ∷ middle) vs n))

  along_right : (c : Call) (xs : List Layer) (js : List Task) (vs : List Value) (n : ℕ)
      → continued (ly run f c xs n) (λ ys m. all_done run f js (In_row ys ∷ vs) m) ≡ continued (along_step run f c xs js vs n) rest_of
  along_right c [] js vs n = begun_use (record c { along = None }) js vs n
  along_right c (By_entry e ∷ xs) js vs n = begun_use (record c { entries = e ∷ c.entries; along = Some xs }) js vs n
  along_right c (At_place g s i ts ∷ xs) js vs n = place_right c (place g i) s ts xs c.entries js vs n

  use_right : (c : Call) (o : Option (List Layer)) (js : List Task) (vs : List Value) (n : ℕ)
      → continued (option_map_or (λ xs. ly run f c xs n) o (ex run f c c.goal.history c.entries n)) (λ ys m. all_done run f js (In_row ys ∷ vs) m)
      ≡ continued (use_step run f c o js vs n) rest_of
  use_right c None js vs n = goal_right c c.goal.history c.entries js vs n
  use_right c (Some xs) js vs n = along_right c xs js vs n

  values_then : (js : List Task) (o : Spending (List Value))
      → continued o (all_done run f js) ≡ continued (continued o (λ vs n. Yields (pending js vs) n)) rest_of
  values_then js o = sym (continued_twice o (λ vs n. Yields (pending js vs) n) rest_of)

  -- a step of the first task, and then all that is left
  pub step_right : ((c : Call) (n : ℕ) → run c n ≡ single_use run f c n) → (j : Task) (js : List Task) (vs : List Value) (n : ℕ)
      → all_done run f (j ∷ js) vs n ≡ continued (task_step run f j js vs n) rest_of
  step_right fx (Links c b ls t) js [] n = refl
  step_right fx (Links c b ls t) js (In_parts ps ∷ vs) n = refl
  step_right fx (Links c b ls t) js (In_row v ∷ vs) n = behind_then js v vs (links_written run f c b ls t n) ∙ links_right c b ls t js v vs n
  step_right fx (Give_reason c b w s t) js vs n = row_then js vs (whys_written run f c b w s t n) ∙ reason_right c b w s t js vs n
  step_right fx (Give_reasons c b ws v l ks s t) js vs n =
      continued_twice (each_why run f c b ws v l ks s t n) (λ ps m. Yields (In_parts ps ∷ vs) m) (all_done run f js) ∙ reasons_right c b ws v l ks s t js vs n
  step_right fx (Begin_use c) js vs n =
      counted_same n (λ m. with_row run f vs (run c m)) (λ m. Yields (pending (Enter_use c ∷ js) vs) m) (all_done run f js) rest_of (λ k. refl)
  step_right fx (Enter_use c) js vs n =
      let D : Pieces → ℕ → Spending (List Value) = λ xs m. all_done run f js (In_row xs ∷ vs) m in
      row_then js vs (run c n) ∙ ap (λ o. continued o D) (fx c n)
      ∙ tested_same c.whole (option_map_or (λ xs. ly run f c xs n) c.along (ex run f c c.goal.history c.entries n))
      (use_step run f c c.along js vs n) D rest_of (use_right c c.along js vs n)
  step_right fx (Occurrences c xs b last ps here) js [] n = refl
  step_right fx (Occurrences c xs b last ps here) js (In_parts qs ∷ vs) n = refl
  step_right fx (Occurrences c xs b last ps here) js (In_row v ∷ vs) n =
      behind_then js v vs (occurrences_written run f c xs b last ps here n) ∙ occurrences_right c xs b last ps here js v vs n
  step_right fx Empty_row js vs n = refl
  step_right fx (Put_behind way) js vs n = values_then js (put_behind run f way vs n)
  step_right fx Put_between js vs n = values_then js (put_between run f vs n)
  step_right fx Add_part js vs n = values_then js (add_part run f vs n)
  step_right fx (Begin_split u) js vs n =
      counted_same n (λ m. tested u (Yields vs m)) (λ m. tested u (Yields (pending js vs) m)) (all_done run f js) rest_of (λ k.
      tested_same u (Yields vs k) (Yields (pending js vs) k) (all_done run f js) rest_of refl)
  step_right fx (End_split u) js vs n = values_then js (end_split run f u vs n)

-- ---- the whole

row_back : (o : Spending Pieces) → continued (continued (continued o (λ xs m. Yields (In_row xs ∷ []) m)) (λ vs n. Yields vs n)) last_row ≡ o
row_back (Yields xs n) = refl
row_back Long = refl
row_back (Past l) = refl
row_back Stopped = refl

pub begins_right : (f : Background) (c : Call) (k : ℕ) → counted k (uses k f c) ≡ continued (rest_done f (pending (Begin_use c ∷ []) []) k) last_row
begins_right f c zero = refl
begins_right f c (suc k) = sym (row_back (uses (suc k) f c k))

pub worked_right : (k : ℕ) (th : Theory) (p : Proof) (goal : ℕ) (ws : List Written) → expansion k th p goal ws ≡ worked_off k th p goal ws
worked_right k th p goal ws =
    let g : Followed = followed_at (goals_of th p 0 [] p.blocks) goal in
    let cs : List Numbered = numbered_entries th ws in
    ap (λ o. all_tested (stages (bare_entries cs) (goal_in g.history).left ++ stages (bare_entries cs) (goal_in g.history).right)
    (tested (on (bare_entries cs) (goal_in g.history).left) (tested (on (bare_entries cs) (goal_in g.history).right) o)))
    (begins_right (background_of th p) (opening_use th p goal ws) k)

pub rest_right : (f : Background) (j : Task) (js : List Task) (vs : List Value) (n : ℕ)
    → rest_done f (pending (j ∷ js) vs) n ≡ continued (task_step (all_uses f) f j js vs n) (rest_done f)
rest_right f j js vs n = step_right (all_uses f) f (one_round f) j js vs n
