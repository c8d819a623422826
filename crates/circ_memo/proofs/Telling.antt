-- What is kept still tells the traces when terms are added, and when more is kept.
use Rattle.std.proofs.Common.{◌≡◌, ℕ, ◌+◌, ◌≤◌, ◌<◌, ◌⊎◌, inl, inr, List, [], ◌∷◌, ◌++◌, length, Option, Some, None, refl, ap, sym, subst, ◌∙◌, arith}
use Rattle.std.specs.List.{slice_get}
use Rattle.std.proofs.lemmas.Option.{same_Some, slice_get_within}
use Rattle.std.proofs.lemmas.Bool.{cases_lt}
use Rattle.circ_term.specs.Tree.{Tree}
use Rattle.circ_rewrite.specs.Replacement.{Replacement}
use Rattle.circ_term.specs.Growing.{Grows}
use Rattle.circ_nodes.specs.Named.{IsNamed}
use Rattle.circ_nodes.proofs.Numbers.{named_later, are_named_later, named_one}
use Rattle.circ_chain.proofs.Unique.{reduces_unique}
use Rattle.circ_memo.specs.Keeping.{kept_at, HasSame, Puts, IsNumberKept, Stays, HasKeptArgs, IsWayKept, IsForm, IsNextKept, IsTold, IsKept, AreKept}
use Rattle.circ_memo.specs.Settling.{IsLinked, AreLinked, HasPassed}
use Rattle.circ_memo.specs.declared.parts.Entry.{Entry}
use Rattle.circ_memo.specs.declared.parts.Passing.{Passing}
use Rattle.circ_memo.specs.declared.parts.Step.{Step}

pub stays_self : (es : List (Option Entry)) → Stays es es
stays_self es n e k = (e, k, refl)

pub stays_on : (a b c : List (Option Entry)) → Stays a b → Stays b c → Stays a c
stays_on a b c g h n e k =
    let d = g n e k in
    let f = h n d.0 d.1 in
    (f.0, f.1, f.2 ∙ d.2)

pub stays_same : (a b : List (Option Entry)) → HasSame a b → Stays a b
stays_same a b h n e k = (e, h n ∙ k, refl)

-- greater counts
pub number_more : (es : List (Option Entry)) (n c d : ℕ) → c ≤ d → IsNumberKept es n c → IsNumberKept es n d
number_more es n c d w h = (h.0, h.1, omega (arith, w, h.2))

pub args_more : (nodes : List Tree) (es : List (Option Entry)) (t : Tree) (c d : ℕ) → c ≤ d → HasKeptArgs nodes es t c → HasKeptArgs nodes es t d
args_more nodes es t c d w h = record {
  op = h.op;
  sort = h.sort;
  args = h.args;
  numbers = h.numbers;
  is = h.is;
  named = h.named;
  kept = λ i n g. number_more es n c d w (h.kept i n g);
}

pub way_more : (nodes : List Tree) (es : List (Option Entry)) (n : ℕ) (t : Tree) (ready c d : ℕ) → c ≤ d → IsWayKept nodes es n t ready c → IsWayKept nodes es n t ready d
way_more nodes es n t ready c d w (inl h) = inl h
way_more nodes es n t ready c d w (inr h) = inr (args_more nodes es t c d w h)

-- more that is kept
module _ (a b : List (Option Entry)) (s : Stays a b) where
  pub number_stays : (n c : ℕ) → IsNumberKept a n c → IsNumberKept b n c
  number_stays n c h =
      let d = s n h.0 h.1 in
      (d.0, d.1, omega (arith, d.2, h.2))

  pub way_stays : (nodes : List Tree) (n : ℕ) (t : Tree) (ready c : ℕ) → IsWayKept nodes a n t ready c → IsWayKept nodes b n t ready c
  way_stays nodes n t ready c (inl h) = inl h
  way_stays nodes n t ready c (inr h) =
      inr
      (record {
        op = h.op;
        sort = h.sort;
        args = h.args;
        numbers = h.numbers;
        is = h.is;
        named = h.named;
        kept = λ i m g. number_stays m c (h.kept i m g);
      })

  pub linked_stays : (nodes : List Tree) (n : ℕ) (p : Step) → IsLinked nodes a n p → IsLinked nodes b n p
  linked_stays nodes n p h = record { here = h.here; term = h.term; named = h.named; way = way_stays nodes n h.term p.way.ready p.way.count h.way }

  pub are_linked_stays : (nodes : List Tree) (n : ℕ) (ps : List Step) (m : ℕ) → AreLinked nodes a n ps m → AreLinked nodes b n ps m
  are_linked_stays nodes n [] m h = h
  are_linked_stays nodes n (p ∷ ps) m h = (linked_stays nodes n p h.0, are_linked_stays nodes p.next ps m h.1)

  pub passed_stays : (nodes : List Tree) (t : Tree) (i : ℕ) (p : Passing) → HasPassed nodes a t i p → HasPassed nodes b t i p
  passed_stays nodes t i p h = record {
    op = h.op;
    sort = h.sort;
    args = h.args;
    numbers = h.numbers;
    is = h.is;
    named = h.named;
    long = h.long;
    kept = λ j n l g. number_stays n p.count (h.kept j n l g);
    rest = h.rest;
  }

  module _ (due : Tree → Option Replacement) (nodes : List Tree) where
    next_stays : (u : Tree) (c : ℕ) (o : Option ℕ) → IsNextKept due nodes a u c o → IsNextKept due nodes b u c o
    next_stays u c None h = h
    next_stays u c (Some m) h = (h.0, h.1, h.2, h.3, number_stays m h.3 h.4, h.5)

    pub told_stays : (n : ℕ) (t : Tree) (e : Entry) → IsTold due nodes a n t e → IsTold due nodes b n t e
    told_stays n t e h = record {
      ready = h.ready;
      known = h.known;
      big = h.big;
      deep = h.deep;
      there = h.there;
      readies = h.readies;
      way = way_stays nodes n t e.ready e.count h.way;
      next = next_stays h.ready e.count e.next h.next;
    }

-- more terms
module _ (es : List (Option Entry)) (old new : List Tree) (g : Grows old new) where
  pub way_kept_later : (n : ℕ) (t : Tree) (ready c : ℕ) → IsWayKept old es n t ready c → IsWayKept new es n t ready c
  way_kept_later n t ready c (inl h) = inl h
  way_kept_later n t ready c (inr h) =
      inr
      (record {
        op = h.op;
        sort = h.sort;
        args = h.args;
        numbers = h.numbers;
        is = h.is;
        named = are_named_later old new h.numbers h.args g h.named;
        kept = h.kept;
      })

  pub linked_later : (n : ℕ) (p : Step) → IsLinked old es n p → IsLinked new es n p
  linked_later n p h =
      record { here = h.here; term = h.term; named = named_later old new n h.term g h.named; way = way_kept_later n h.term p.way.ready p.way.count h.way }

  pub are_linked_later : (n : ℕ) (ps : List Step) (m : ℕ) → AreLinked old es n ps m → AreLinked new es n ps m
  are_linked_later n [] m h = h
  are_linked_later n (p ∷ ps) m h = (linked_later n p h.0, are_linked_later p.next ps m h.1)

  pub has_passed_later : (t : Tree) (i : ℕ) (p : Passing) → HasPassed old es t i p → HasPassed new es t i p
  has_passed_later t i p h = record {
    op = h.op;
    sort = h.sort;
    args = h.args;
    numbers = h.numbers;
    is = h.is;
    named = are_named_later old new h.numbers h.args g h.named;
    long = h.long;
    kept = h.kept;
    rest = h.rest;
  }

  module _ (due : Tree → Option Replacement) where
    next_later : (u : Tree) (c : ℕ) (o : Option ℕ) → IsNextKept due old es u c o → IsNextKept due new es u c o
    next_later u c None h = h
    next_later u c (Some m) h = (h.0, h.1, named_later old new m h.0.new g h.2, h.3, h.4, h.5)

    pub told_later : (n : ℕ) (t : Tree) (e : Entry) → IsTold due old es n t e → IsTold due new es n t e
    told_later n t e h = record {
      ready = h.ready;
      known = h.known;
      big = h.big;
      deep = h.deep;
      there = named_later old new e.ready h.ready g h.there;
      readies = h.readies;
      way = way_kept_later n t e.ready e.count h.way;
      next = next_later h.ready e.count e.next h.next;
    }

-- steps that follow each other
module _ (nodes : List Tree) (es : List (Option Entry)) where
  pub linked_on : (n : ℕ) (ps : List Step) (m : ℕ) (p : Step) → AreLinked nodes es n ps m → IsLinked nodes es m p → AreLinked nodes es n (ps ++ p ∷ []) p.next
  linked_on n [] m p h l = (subst (λ k. IsLinked nodes es k p) (sym h) l, refl)
  linked_on n (q ∷ ps) m p h l = (h.0, linked_on q.next ps m p h.1 l)

  pub linked_back : (n : ℕ) (ps : List Step) (m : ℕ) (p : Step) → AreLinked nodes es n (ps ++ p ∷ []) m
      → AreLinked nodes es n ps p.here × IsLinked nodes es p.here p × (p.next ≡ m)
  linked_back n [] m p h = (sym h.0.here, subst (λ k. IsLinked nodes es k p) (sym h.0.here) h.0, h.1)
  linked_back n (q ∷ ps) m p h =
      let rest = linked_back q.next ps m p h.1 in
      ((h.0, rest.0), rest.1, rest.2)

-- what is put in the place of what was kept of a term has the same count
module _ (due : Tree → Option Replacement) (nodes : List Tree) where
  same_count : (t : Tree) (d e : Entry) → IsForm due nodes t d → IsForm due nodes t e → d.count ≡ e.count
  same_count t d e f g =
      let same = reduces_unique due d.big d.deep e.big e.deep f.traces g.traces t f.value g.value f.form.reduces g.form.reduces in
      sym f.form.count_is ∙ ap length same.0 ∙ g.form.count_is

  pub stays_put : (n : ℕ) (t : Tree) (e : Entry) (a b : List (Option Entry)) → Puts n e a b → IsNamed nodes n t → IsForm due nodes t e → AreKept due nodes a → Stays a b
  stays_put n t e a b p named f h m d k = go (p.others m)
    where
      go : (m ≡ n) ⊎ (kept_at b m ≡ kept_at a m) → (x : Entry) × (kept_at b m ≡ Some x) × (x.count ≡ d.count)
      go (inr z) = (d, z ∙ k, refl)
      go (inl z) =
          let old = h m d k in
          let same = named_one nodes n old.term t (subst (λ x. IsNamed nodes x old.term) z old.here) named in
          (e, ap (kept_at b) z ∙ p.there, same_count t e d f (subst (λ x. IsForm due nodes x d) same old.form))

  pub kept_put : (n : ℕ) (t : Tree) (e : Entry) (a b : List (Option Entry)) → Puts n e a b → IsNamed nodes n t → IsForm due nodes t e → IsTold due nodes a n t e
      → AreKept due nodes a → AreKept due nodes b × Stays a b
  kept_put n t e a b p named f told h = (λ m d k. go m d k (p.others m), stays)
    where
      stays : Stays a b
      stays = stays_put n t e a b p named f h

      new : IsKept due nodes b n e
      new = record { term = t; here = named; form = f; told = told_stays a b stays due nodes n t e told }

      go : (m : ℕ) (d : Entry) → kept_at b m ≡ Some d → (m ≡ n) ⊎ (kept_at b m ≡ kept_at a m) → IsKept due nodes b m d
      go m d k (inl z) =
          let is : e ≡ d = same_Some e d (sym (subst (λ x. kept_at b x ≡ Some e) (sym z) p.there) ∙ k) in
          subst (λ x. IsKept due nodes b m x) is (subst (λ x. IsKept due nodes b x e) (sym z) new)
      go m d k (inr z) =
          let old = h m d (sym z ∙ k) in
          record { term = old.term; here = old.here; form = old.form; told = told_stays a b stays due nodes m old.term d old.told }

  pub kept_same : (a b : List (Option Entry)) → HasSame a b → AreKept due nodes a → AreKept due nodes b
  kept_same a b g h n e k =
      let old = h n e (sym (g n) ∙ k) in
      record { term = old.term; here = old.here; form = old.form; told = told_stays a b (stays_same a b g) due nodes n old.term e old.told }

  pub kept_nothing : (es : List (Option Entry)) → es ≡ [] → AreKept due nodes es
  kept_nothing es z n e k = absurd (let f : None ≡ Some e = rw z at k in cc)

-- one argument more
pub passed_next : (nodes : List Tree) (es : List (Option Entry)) (t : Tree) (i : ℕ) (p q : Passing) (n : ℕ) → HasPassed nodes es t i p → slice_get p.args.items i ≡ Some n
    → IsNumberKept es n q.count → p.count ≤ q.count → length q.args.items ≡ length p.args.items
    → ((j : ℕ) → i < j → slice_get q.args.items j ≡ slice_get p.args.items j) → HasPassed nodes es t (i + 1) q
passed_next nodes es t i p q n h at k more long others = record {
  op = h.op;
  sort = h.sort;
  args = h.args;
  numbers = h.numbers;
  is = h.is;
  named = h.named;
  long = h.long ∙ sym long;
  kept = λ j m l g. go j m l g (cases_lt j i);
  rest = λ j l. others j (omega (arith, l)) ∙ h.rest j (omega (arith, l));
}
  where
    go : (j m : ℕ) → j < i + 1 → slice_get h.numbers j ≡ Some m → (j < i) ⊎ (i ≤ j) → IsNumberKept es m q.count
    go j m b g (inl l) = number_more es m p.count q.count more (h.kept j m l g)
    go j m b g (inr l) =
        let z : i ≡ j = omega (arith, b, l) in
        let is : n ≡ m = same_Some n m (sym at ∙ h.rest i (omega arith) ∙ ap (slice_get h.numbers) z ∙ g) in
        subst (λ x. IsNumberKept es x q.count) is k

-- all of them
pub passed_all : (nodes : List Tree) (es : List (Option Entry)) (t : Tree) (i : ℕ) (p : Passing) → HasPassed nodes es t i p → length p.args.items ≤ i → HasKeptArgs nodes es t p.count
passed_all nodes es t i p h all = record {
  op = h.op;
  sort = h.sort;
  args = h.args;
  numbers = h.numbers;
  is = h.is;
  named = h.named;
  kept = λ j n g. h.kept j n (omega (arith, all, h.long, slice_get_within h.numbers j n g)) g;
}
