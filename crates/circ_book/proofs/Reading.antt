-- What is read of a proof, block by block.
use Rattle.std.proofs.Common.{◌≡◌, ◌≤◌, ◌<◌, ℕ, ◌+◌, zero, suc, List, [], ◌∷◌, ◌++◌, map, length, take, refl, ap, sym, ◌∙◌, subst, arith, append_assoc, append-nil}
use Rattle.std.specs.List.{AllByRecursion}
use Rattle.std.proofs.lemmas.List.{map-append, length-append}
use Rattle.circ_term.specs.Tree.{Tree}
use Rattle.circ_theory.specs.Theory.{Theory}
use Rattle.circ_theory.specs.Goal.{Goal}
use Rattle.circ_special.specs.declared.place.Place.{Place}
use Rattle.circ_theory.specs.Rewriting.{named}
use Rattle.circ_proof.specs.Proof.{Block, Proof, IsBlockFor, IsEnded, steps_in}
use Rattle.circ_proof.specs.PlainProof.{plain_block, plain_steps}
use Rattle.circ_proof.specs.Rules.{state, ProofStep, map_step, StepsOf}
use Rattle.circ_proof.specs.Accepted.{steps_of, BlocksDerive}
use Rattle.circ_proof.specs.declared.proof.Block.{Block as TheBlock}
use Rattle.circ_expansion.specs.Followed.{Followed as History_in, followed_in, told, told_in, Told, hypotheses_of, goals_of}
use Rattle.circ_book.specs.Histories.{history_at, histories_of, told_at, AreNodes}
use Rattle.circ_book.specs.Book.{kept_in, followed_by, hypotheses_in, derivations, AddsBlock, IsBook}
use Rattle.circ_book.specs.declared.book.Book.{Book}
use Rattle.circ_book.specs.declared.histories.Node.{Node}
use Rattle.circ_book.specs.declared.histories.Numbers.{Numbers}
use Rattle.circ_book.specs.declared.book.Followed.{Followed}
use Rattle.circ_book.specs.declared.book.Derivations.{Derivations}
use Rattle.circ_book.proofs.Below.{old_same}

abbrev pub AreKept : (n : ℕ) → List Followed → Type 0
AreKept n xs = AllByRecursion (λ (x : Followed). x.node < n) xs

-- of each block the goals before it are among those that there are, and what it derives are nodes
abbrev pub AreDerived : (goals n : ℕ) → List Derivations → Type 0
AreDerived g n ds = AllByRecursion (λ (d : Derivations). (d.earlier ≤ g) × AllByRecursion (λ k. k < n) d.derived.items) ds

-- with more nodes they are followed as before
same_followed : (table : List Tree) (ns xs : List Node) (gs : List Followed) → AreKept (length ns) gs
    → map (followed_by table (ns ++ xs)) gs ≡ map (followed_by table ns) gs
same_followed table ns xs [] a = refl
same_followed table ns xs (g ∷ gs) a =
    ap (λ h. record { block = g.block; history = h } ∷ map (followed_by table (ns ++ xs)) gs) (old_same table ns xs g.node a.0)
    ∙ ap (λ ys. followed_by table ns g ∷ ys) (same_followed table ns xs gs a.1)

kept_are : (b n : ℕ) (ks : List ℕ) → AllByRecursion (λ k. k < n) ks → AreKept n (kept_in b ks)
kept_are b n [] a = tt
kept_are b n (k ∷ ks) a = (a.0, kept_are b n ks a.1)

front_are : (n c : ℕ) (gs : List Followed) → AreKept n gs → AreKept n (take c gs)
front_are n zero [] a = tt
front_are n zero (g ∷ gs) a = tt
front_are n (suc c) [] a = tt
front_are n (suc c) (g ∷ gs) a = (a.0, front_are n c gs a.1)

front_same : (c : ℕ) (gs hs : List Followed) → c ≤ length gs → take c (gs ++ hs) ≡ take c gs
front_same zero [] [] h = refl
front_same zero [] (x ∷ hs) h = refl
front_same zero (g ∷ gs) hs h = refl
front_same (suc c) [] hs h = absurd (omega (arith, h))
front_same (suc c) (g ∷ gs) hs h = ap (λ ys. g ∷ ys) (front_same c gs hs (omega (arith, h)))

-- .. and with more goals the hypotheses of the blocks stay
hypotheses_same : (table : List Tree) (ns xs : List Node) (gs hs : List Followed) (n : ℕ) (ds : List Derivations) → AreKept (length ns) gs
    → AreDerived (length gs) (length ns) ds → hypotheses_in table (ns ++ xs) (gs ++ hs) n ds ≡ hypotheses_in table ns gs n ds
hypotheses_same table ns xs gs hs n [] a b = refl
hypotheses_same table ns xs gs hs n (d ∷ ds) a b =
    let first : map (followed_by table (ns ++ xs)) (take d.earlier (gs ++ hs)) ≡ map (followed_by table ns) (take d.earlier gs) =
    ap (map (followed_by table (ns ++ xs))) (front_same d.earlier gs hs b.0.0)
    ∙ same_followed table ns xs (take d.earlier gs) (front_are (length ns) d.earlier gs a) in
    let second = same_followed table ns xs (kept_in n d.derived.items) (kept_are n (length ns) d.derived.items b.0.1) in
    ap (λ ys. (ys ++ map (followed_by table (ns ++ xs)) (kept_in n d.derived.items)) ∷ hypotheses_in table (ns ++ xs) (gs ++ hs) (n + 1) ds) first
    ∙ ap (λ ys. (map (followed_by table ns) (take d.earlier gs) ++ ys) ∷ hypotheses_in table (ns ++ xs) (gs ++ hs) (n + 1) ds) second
    ∙ ap (λ ys. (map (followed_by table ns) (take d.earlier gs) ++ map (followed_by table ns) (kept_in n d.derived.items)) ∷ ys)
    (hypotheses_same table ns xs gs hs (n + 1) ds a b.1)

hypotheses_last : (table : List Tree) (ns : List Node) (gs : List Followed) (n : ℕ) (ds : List Derivations) (d : Derivations)
    → hypotheses_in table ns gs n (ds ++ d ∷ []) ≡ hypotheses_in table ns gs n ds
    ++ (map (followed_by table ns) (take d.earlier gs) ++ map (followed_by table ns) (kept_in (n + length ds) d.derived.items)) ∷ []
hypotheses_last table ns gs n [] d =
    (let z : n ≡ n + 0 = omega arith in
    ap (λ k. (map (followed_by table ns) (take d.earlier gs) ++ map (followed_by table ns) (kept_in k d.derived.items)) ∷ []) z)
hypotheses_last table ns gs n (x ∷ ds) d =
    ap (λ ys. (map (followed_by table ns) (take x.earlier gs) ++ map (followed_by table ns) (kept_in n x.derived.items)) ∷ ys)
    (hypotheses_last table ns gs (n + 1) ds d
    ∙ (let z : n + 1 + length ds ≡ n + suc (length ds) = omega arith in
    ap (λ k. hypotheses_in table ns gs (n + 1) ds
    ++ (map (followed_by table ns) (take d.earlier gs) ++ map (followed_by table ns) (kept_in k d.derived.items)) ∷ []) z))

-- nodes in a block are goals that are followed in it
kept_followed : (table : List Tree) (ns : List Node) (b : ℕ) (ks : List ℕ)
    → map (followed_by table ns) (kept_in b ks) ≡ followed_in b (histories_of (map (history_at table ns) ks))
kept_followed table ns b [] = refl
kept_followed table ns b (k ∷ ks) = ap (λ ys. followed_by table ns (record { block = b; node = k }) ∷ ys) (kept_followed table ns b ks)

-- ---- one block after another

-- The first blocks are read: these are left.
pub record ReadsTo (th : Theory) (p : Proof) (ns : List Node) (gs : List Followed) (ds : List Derivations) (H : List Goal) (bs : List Block) : Type 0 where
  pub known : AreKept (length ns) gs
  pub fit : AreDerived (length gs) (length ns) ds
  pub goals : map (followed_by p.table ns) gs ++ goals_of th p (length ds) H bs ≡ goals_of th p 0 [] p.blocks
  pub hyps : hypotheses_in p.table ns gs 0 ds ++ hypotheses_of th p (length ds) H (map (followed_by p.table ns) gs) bs ≡ hypotheses_of th p 0 [] [] p.blocks

pub reads_first : (th : Theory) (p : Proof) → ReadsTo th p [] [] [] [] p.blocks
reads_first th p = record { known = tt; fit = tt; goals = refl; hyps = refl }

more_kept : (n m : ℕ) → n ≤ m → (gs : List Followed) → AreKept n gs → AreKept m gs
more_kept n m le [] a = tt
more_kept n m le (g ∷ gs) a = (omega (arith, le, a.0), more_kept n m le gs a.1)

more_nodes : (n m : ℕ) → n ≤ m → (ks : List ℕ) → AllByRecursion (λ k. k < n) ks → AllByRecursion (λ k. k < m) ks
more_nodes n m le [] a = tt
more_nodes n m le (k ∷ ks) a = (omega (arith, le, a.0), more_nodes n m le ks a.1)

more_derived : (g h n m : ℕ) → g ≤ h → n ≤ m → (ds : List Derivations) → AreDerived g n ds → AreDerived h m ds
more_derived g h n m le lf [] a = tt
more_derived g h n m le lf (d ∷ ds) a = ((omega (arith, le, a.0.0), more_nodes n m lf d.derived.items a.0.1), more_derived g h n m le lf ds a.1)

both_kept : (n : ℕ) (gs hs : List Followed) → AreKept n gs → AreKept n hs → AreKept n (gs ++ hs)
both_kept n [] hs a b = b
both_kept n (g ∷ gs) hs a b = (a.0, both_kept n gs hs a.1 b)

both_derived : (g n : ℕ) (ds es : List Derivations) → AreDerived g n ds → AreDerived g n es → AreDerived g n (ds ++ es)
both_derived g n [] es a b = b
both_derived g n (d ∷ ds) es a b = (a.0, both_derived g n ds es a.1 b)

whole_front : (gs hs : List Followed) → take (length gs) (gs ++ hs) ≡ gs
whole_front [] [] = refl
whole_front [] (x ∷ hs) = refl
whole_front (g ∷ gs) hs = ap (λ ys. g ∷ ys) (whole_front gs hs)

module _ (th : Theory) (p : Proof) (ns xs : List Node) (gs : List Followed) (ds : List Derivations) (H : List Goal) (b : Block) (bs : List Block) (u : Numbers)
    (r : ReadsTo th p ns gs ds H (b ∷ bs)) (are : AreNodes (ns ++ xs) u) (right : told_at p.table (ns ++ xs) u ≡ told_in th p H b) where
  abbrev ms : List Node
  ms = ns ++ xs

  abbrev n : ℕ
  n = length ds

  abbrev new : List Followed
  new = kept_in n u.goals.items

  abbrev more : List Derivations
  more = derivations (length gs) u.derived ∷ []

  abbrev before : List History_in
  before = map (followed_by p.table ns) gs

  goals_are : map (followed_by p.table ms) (gs ++ new) ≡ before ++ followed_in n (told_in th p H b).goals
  goals_are =
      map-append (followed_by p.table ms) gs new
      ∙ ap (λ ys. ys ++ map (followed_by p.table ms) new) (same_followed p.table ns xs gs r.known)
      ∙ ap (λ ys. before ++ ys) (kept_followed p.table ms n u.goals.items ∙ ap (λ (t : Told). followed_in n t.goals) right)

  hyps_are : hypotheses_in p.table ms (gs ++ new) 0 (ds ++ more)
      ≡ hypotheses_in p.table ns gs 0 ds ++ (before ++ followed_in n (told_in th p H b).derived) ∷ []
  hyps_are =
      hypotheses_last p.table ms (gs ++ new) 0 ds (derivations (length gs) u.derived)
      ∙ ap (λ ys. ys ++ (map (followed_by p.table ms) (take (length gs) (gs ++ new)) ++ map (followed_by p.table ms) (kept_in (0 + n) u.derived.items)) ∷ [])
      (hypotheses_same p.table ns xs gs new 0 ds r.known r.fit)
      ∙ ap (λ ys. hypotheses_in p.table ns gs 0 ds ++ (map (followed_by p.table ms) ys ++ map (followed_by p.table ms) (kept_in (0 + n) u.derived.items)) ∷ [])
      (whole_front gs new)
      ∙ ap (λ ys. hypotheses_in p.table ns gs 0 ds ++ (ys ++ map (followed_by p.table ms) (kept_in (0 + n) u.derived.items)) ∷ [])
      (same_followed p.table ns xs gs r.known)
      ∙ (let z : 0 + n ≡ n = omega arith in
      ap (λ k. hypotheses_in p.table ns gs 0 ds ++ (before ++ map (followed_by p.table ms) (kept_in k u.derived.items)) ∷ []) z)
      ∙ ap (λ ys. hypotheses_in p.table ns gs 0 ds ++ (before ++ ys) ∷ [])
      (kept_followed p.table ms n u.derived.items ∙ ap (λ (t : Told). followed_in n t.derived) right)

  longer_by : length ds + 1 ≡ length (ds ++ more)
  longer_by = sym (length-append ds more)

  pub reads_next : ReadsTo th p (ns ++ xs) (gs ++ kept_in (length ds) u.goals.items) (ds ++ derivations (length gs) u.derived ∷ []) (H ++ b.goals) bs
  reads_next =
      let nodes : length ns ≤ length ms = omega (arith, length-append ns xs) in
      let many : length gs ≤ length (gs ++ new) = omega (arith, length-append gs new) in
      record {
        known = both_kept (length ms) gs new (more_kept (length ns) (length ms) nodes gs r.known) (kept_are n (length ms) u.goals.items are.goals);
        fit = both_derived (length (gs ++ new)) (length ms) ds more
            (more_derived (length gs) (length (gs ++ new)) (length ns) (length ms) many nodes ds r.fit) ((many, are.derived), tt);
        goals = ap (λ ys. ys ++ goals_of th p (length (ds ++ more)) (H ++ b.goals) bs) goals_are
            ∙ append_assoc before (followed_in n (told_in th p H b).goals) (goals_of th p (length (ds ++ more)) (H ++ b.goals) bs)
            ∙ ap (λ k. before ++ (followed_in n (told_in th p H b).goals ++ goals_of th p k (H ++ b.goals) bs)) (sym longer_by) ∙ r.goals;
        hyps = ap (λ ys. ys ++ hypotheses_of th p (length (ds ++ more)) (H ++ b.goals) (map (followed_by p.table ms) (gs ++ new)) bs) hyps_are
            ∙ append_assoc (hypotheses_in p.table ns gs 0 ds) ((before ++ followed_in n (told_in th p H b).derived) ∷ [])
            (hypotheses_of th p (length (ds ++ more)) (H ++ b.goals) (map (followed_by p.table ms) (gs ++ new)) bs)
            ∙ ap (λ ys. hypotheses_in p.table ns gs 0 ds ++ (before ++ followed_in n (told_in th p H b).derived)
            ∷ hypotheses_of th p (length (ds ++ more)) (H ++ b.goals) ys bs) goals_are
            ∙ ap (λ k. hypotheses_in p.table ns gs 0 ds ++ (before ++ followed_in n (told_in th p H b).derived)
            ∷ hypotheses_of th p k (H ++ b.goals) (before ++ followed_in n (told_in th p H b).goals) bs) (sym longer_by) ∙ r.hyps;
      }

-- what is added is what is read of a block
pub reads_added : (th : Theory) (p : Proof) (G : List Place) (table : List Tree) (a b : Book) (H K : List Goal) (block : TheBlock) (bs : List Block)
    → table ≡ p.table → G ≡ p.places → AddsBlock th G table a b H block → K ≡ H ++ block.goals.items
    → ReadsTo th p a.nodes.items a.goals.items a.blocks.items H (plain_block block ∷ bs) → ReadsTo th p b.nodes.items b.goals.items b.blocks.items K bs
reads_added th p G table a b H K block bs t g d k r =
    let u = d.numbers in
    let xs = d.nodes.0 in
    let A : List Node → Type 0 = λ ns. AreNodes ns u in
    let are : AreNodes (a.nodes.items ++ xs) u = subst A d.nodes.1 d.are in
    let S : List Tree → List (ProofStep Tree) = λ y. map (map_step (named y)) (plain_steps block.steps.items) in
    let right : told_at p.table (a.nodes.items ++ xs) u ≡ told_in th p H (plain_block block) =
    ap (λ ns. told_at p.table ns u) (sym d.nodes.1) ∙ ap (λ y. told_at y b.nodes.items u) (sym t) ∙ d.right
    ∙ ap (λ y. told th G H block.goals.items (S y)) t ∙ ap (λ y. told th y H block.goals.items (S p.table)) g in
    let n = reads_next th p a.nodes.items xs a.goals.items a.blocks.items H (plain_block block) bs u r are right in
    let gs = a.goals.items ++ kept_in (length a.blocks.items) u.goals.items in
    let ds = a.blocks.items ++ derivations (length a.goals.items) u.derived ∷ [] in
    let L1 : List Node → Type 0 = λ y. ReadsTo th p y gs ds (H ++ block.goals.items) bs in
    let L2 : List Followed → Type 0 = λ y. ReadsTo th p b.nodes.items y ds (H ++ block.goals.items) bs in
    let L3 : List Derivations → Type 0 = λ y. ReadsTo th p b.nodes.items b.goals.items y (H ++ block.goals.items) bs in
    let L4 : List Goal → Type 0 = λ y. ReadsTo th p b.nodes.items b.goals.items b.blocks.items y bs in
    subst L4 (sym k) (subst L3 (sym d.blocks) (subst L2 (sym d.goals) (subst L1 (sym d.nodes.1) n)))

pub first_runs : (th : Theory) (p : Proof) (H : List Goal) (b : Block) (bs : List Block) (dss : List (List Goal)) → BlocksDerive th p H (b ∷ bs) dss
    → (F : List Goal) × StepsOf th p.places (steps_of p.table b) (state H b.goals) (state F [])
first_runs th p H b bs [] d = absurd d
first_runs th p H b bs (ds ∷ dss) d = (H ++ ds, d.0)

pub others_derive : (th : Theory) (p : Proof) (H : List Goal) (b : Block) (bs : List Block) (dss : List (List Goal)) → BlocksDerive th p H (b ∷ bs) dss
    → (ess : List (List Goal)) × BlocksDerive th p (H ++ b.goals) bs ess
others_derive th p H b bs [] d = absurd d
others_derive th p H b bs (ds ∷ dss) d = (dss, d.1)

some_step : (ss : List (ProofStep ℕ)) → IsEnded ss → 1 ≤ length ss
some_step [] e = absurd e
some_step (s ∷ ss) e = omega arith

-- each block has a step
pub blocks_few : (th : Theory) (table : List Tree) (bs : List Block) → AllByRecursion (IsBlockFor th table) bs → length bs ≤ steps_in bs
blocks_few th table [] a = omega arith
blocks_few th table (b ∷ bs) a = omega (arith, some_step b.steps a.0.ended, blocks_few th table bs a.1)

pub all_read : (th : Theory) (p : Proof) (b : Book) (H : List Goal) → ReadsTo th p b.nodes.items b.goals.items b.blocks.items H [] → IsBook th p b
all_read th p b H r = record { goals = sym (append-nil _) ∙ r.goals; hypotheses = sym (append-nil _) ∙ r.hyps }
