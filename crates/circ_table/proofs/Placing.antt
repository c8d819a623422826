-- The rows of a table, and the trees that they are.
use Rattle.std.specs.Prelude.{◌≡◌, ℕ, zero, suc, ◌+◌, ◌-◌, ◌≤◌, ◌<◌, ◌==◌, Bool, true, false, not, if◌then◌else◌, List, [], ◌∷◌, ◌++◌, length, take, drop, unwrap_or, Some, None, refl}
use Rattle.std.specs.List.{slice_get, AllByRecursion}
use Rattle.std.specs.Option.{option_and_then}
use Rattle.std.proofs.Common.{ap, sym, subst, ◌∙◌, arith, append_assoc, append-nil, length-append, length-drop}
use Rattle.std.proofs.lemmas.Bool.{eqb-true}
use Rattle.std.proofs.lemmas.List.{drop-append-le, take-append-le, drop_at, take_all}
use Rattle.std.proofs.lemmas.Option.{same_Some, slice_get_within, slice_get_past}
use Rattle.circ_term.specs.Tree.{Tree, args_of, size_of, sort_of}
use Rattle.circ_term.specs.Limits.{argument_limit, IsWithinLimits}
use Rattle.circ_proof.specs.Table.{has, number_in}
use Rattle.circ_proof.proofs.Tables.{number_names, number_stays, number_last}
use Rattle.circ_table.specs.declared.lines.Kind.{Kind}
use Rattle.circ_table.specs.declared.lines.Kind.TheVariants as kinds
use Rattle.circ_table.specs.declared.lines.Lines.{Lines}
use Rattle.circ_table.specs.declared.lines.Row.{Row}
use Rattle.circ_table.specs.Table.{first_at, firsts_at}
use Rattle.circ_table.specs.Lines.{PlainRoot, node_of, tree_at, IsThere, row_root, trees_from, trees, roots_from, begin_of, IsNode, AreRowsFrom, AreLines, HasMore}
use Rattle.circ_table.proofs.Firsts.{get_seam, get_there, has_at, first_made, firsts_later, firsts_below, firsts_once, firsts_length}

-- ---- arguments behind those that are read

abbrev pub last_end : ℕ → List Row → ℕ
last_end start [] = start
last_end start (r ∷ rs) = last_end r.end rs

slice_longer : (args extra : List ℕ) (s e : ℕ) → s ≤ e → e ≤ length args → take (e - s) (drop s (args ++ extra)) ≡ take (e - s) (drop s args)
slice_longer args extra s e a b =
    ap (take (e - s)) (drop-append-le s args extra (omega arith)) ∙ take-append-le (e - s) (drop s args) extra (let d = length-drop s args in omega arith)

abbrev pub with_args : Row → List ℕ → PlainRoot
with_args r ns = record { kind = r.kind; name = r.name; sort = r.sort; args = ns }

pub root_longer : (args extra : List ℕ) (start : ℕ) (r : Row) → start ≤ r.end → r.end ≤ length args → row_root (args ++ extra) start r ≡ row_root args start r
root_longer args extra start r a b = ap (with_args r) (slice_longer args extra start r.end a b)

-- the root of a row that goes last
pub root_last : (args ns : List ℕ) (r : Row) → r.end ≡ length args + length ns → row_root (args ++ ns) (length args) r ≡ with_args r ns
root_last args ns r e = ap (with_args r) (ap (take (r.end - length args)) (drop_at args ns (length args) refl) ∙ take_all (r.end - length args) ns (omega arith))

-- ---- a row more

pub rows_ahead : (args : List ℕ) (table : List Tree) (start : ℕ) (rows : List Row) → AreRowsFrom args table start rows → start ≤ length args
rows_ahead args table start [] h = omega arith
rows_ahead args table start (r ∷ rs) h = let k = rows_ahead args (table ++ tree_at table (row_root args start r) ∷ []) r.end rs h.1 in omega (arith, k, h.0.ahead)

pub rows_end : (args : List ℕ) (table : List Tree) (start : ℕ) (rows : List Row) → AreRowsFrom args table start rows → last_end start rows ≡ length args
rows_end args table start [] h = h
rows_end args table start (r ∷ rs) h = rows_end args (table ++ tree_at table (row_root args start r) ∷ []) r.end rs h.1

trees_longer : (args extra : List ℕ) (table : List Tree) (start : ℕ) (rows : List Row) → AreRowsFrom args table start rows
    → trees_from (args ++ extra) table start rows ≡ trees_from args table start rows
trees_longer args extra table start [] h = refl
trees_longer args extra table start (r ∷ rs) h =
    ap (λ p. trees_from (args ++ extra) (table ++ tree_at table p ∷ []) r.end rs)
    (root_longer args extra start r h.0.ahead (rows_ahead args (table ++ tree_at table (row_root args start r) ∷ []) r.end rs h.1))
    ∙ trees_longer args extra (table ++ tree_at table (row_root args start r) ∷ []) r.end rs h.1

trees_push : (args : List ℕ) (table : List Tree) (start : ℕ) (rows : List Row) (r : Row)
    → trees_from args table start (rows ++ r ∷ []) ≡ trees_from args table start rows ++ tree_at (trees_from args table start rows) (row_root args (last_end start rows) r) ∷ []
trees_push args table start [] r = refl
trees_push args table start (q ∷ rows) r = trees_push args (table ++ tree_at table (row_root args start q) ∷ []) q.end rows r

pub trees_pushed : (args ns : List ℕ) (table : List Tree) (start : ℕ) (rows : List Row) (r : Row) → AreRowsFrom args table start rows → r.end ≡ length args + length ns
    → trees_from (args ++ ns) table start (rows ++ r ∷ []) ≡ trees_from args table start rows ++ tree_at (trees_from args table start rows) (with_args r ns) ∷ []
trees_pushed args ns table start rows r h e =
    trees_push (args ++ ns) table start rows r
    ∙ ap (λ ts. ts ++ tree_at ts (row_root (args ++ ns) (last_end start rows) r) ∷ []) (trees_longer args ns table start rows h)
    ∙ ap (λ p. trees_from args table start rows ++ tree_at (trees_from args table start rows) p ∷ [])
    (ap (λ s. row_root (args ++ ns) s r) (rows_end args table start rows h) ∙ root_last args ns r e)

pub rows_pushed : (args ns : List ℕ) (table : List Tree) (start : ℕ) (rows : List Row) (r : Row) → AreRowsFrom args table start rows → r.end ≡ length args + length ns
    → IsNode (trees_from args table start rows) (with_args r ns) r.size r.depth
    → r.is_first ≡ not (has (trees_from args table start rows) (tree_at (trees_from args table start rows) (with_args r ns)))
    → AreRowsFrom (args ++ ns) table start (rows ++ r ∷ [])
rows_pushed args ns table start [] r h e node first =
    let root : row_root (args ++ ns) start r ≡ with_args r ns = ap (λ s. row_root (args ++ ns) s r) h ∙ root_last args ns r e in
    let P : PlainRoot → Type 0 = λ p. IsNode table p r.size r.depth in
    let Q : PlainRoot → Type 0 = λ p. r.is_first ≡ not (has table (tree_at table p)) in
    let long = length-append args ns in (record { ahead = omega arith; node = subst P (sym root) node; first = subst Q (sym root) first }, omega arith)
rows_pushed args ns table start (q ∷ rows) r h e node first =
    let root = root_longer args ns start q h.0.ahead (rows_ahead args (table ++ tree_at table (row_root args start q) ∷ []) q.end rows h.1) in
    let P : PlainRoot → Type 0 = λ p. IsNode table p q.size q.depth in
    let Q : PlainRoot → Type 0 = λ p. q.is_first ≡ not (has table (tree_at table p)) in
    let R : PlainRoot → Type 0 = λ p. AreRowsFrom (args ++ ns) (table ++ tree_at table p ∷ []) q.end (rows ++ r ∷ []) in (
      record { ahead = h.0.ahead; node = subst P (sym root) h.0.node; first = subst Q (sym root) h.0.first },
      subst R (sym root) (rows_pushed args ns (table ++ tree_at table (row_root args start q) ∷ []) q.end rows r h.1 e node first),
    )

roots_longer : (args extra : List ℕ) (table : List Tree) (start : ℕ) (rows : List Row) → AreRowsFrom args table start rows → roots_from (args ++ extra) start rows ≡ roots_from args start rows
roots_longer args extra table start [] h = refl
roots_longer args extra table start (r ∷ rs) h =
    let next = table ++ tree_at table (row_root args start r) ∷ [] in
    ap (λ p. p ∷ roots_from (args ++ extra) r.end rs) (root_longer args extra start r h.0.ahead (rows_ahead args next r.end rs h.1))
    ∙ ap (λ ps. row_root args start r ∷ ps) (roots_longer args extra next r.end rs h.1)

roots_push : (args : List ℕ) (start : ℕ) (rows : List Row) (r : Row) → roots_from args start (rows ++ r ∷ []) ≡ roots_from args start rows ++ row_root args (last_end start rows) r ∷ []
roots_push args start [] r = refl
roots_push args start (q ∷ rows) r = ap (λ ps. row_root args start q ∷ ps) (roots_push args q.end rows r)

pub roots_pushed : (args ns : List ℕ) (rows : List Row) (r : Row) → AreRowsFrom args [] 0 rows → r.end ≡ length args + length ns
    → roots_from (args ++ ns) 0 (rows ++ r ∷ []) ≡ roots_from args 0 rows ++ with_args r ns ∷ []
roots_pushed args ns rows r h e =
    roots_push (args ++ ns) 0 rows r
    ∙ ap (λ ps. ps ++ row_root (args ++ ns) (last_end 0 rows) r ∷ []) (roots_longer args ns [] 0 rows h)
    ∙ ap (λ p. roots_from args 0 rows ++ p ∷ []) (ap (λ s. row_root (args ++ ns) s r) (rows_end args [] 0 rows h) ∙ root_last args ns r e)

-- ---- a row among the others

pub length_trees : (args : List ℕ) (table : List Tree) (start : ℕ) (rows : List Row) → length (trees_from args table start rows) ≡ length table + length rows
length_trees args table start [] = omega arith
length_trees args table start (r ∷ rs) =
    let t = tree_at table (row_root args start r) in
    let e = length_trees args (table ++ t ∷ []) r.end rs in let l = length-append table (t ∷ []) in omega (arith, e, l)

pub length_roots : (args : List ℕ) (start : ℕ) (rows : List Row) → length (roots_from args start rows) ≡ length rows
length_roots args start [] = refl
length_roots args start (r ∷ rs) = ap suc (length_roots args r.end rs)

pub roots_at : (args : List ℕ) (start : ℕ) (rows : List Row) (n : ℕ) (r : Row) → slice_get rows n ≡ Some r
    → slice_get (roots_from args start rows) n ≡ Some (row_root args (begin_of start rows n) r)
roots_at args start [] n r e = absurd (cc)
roots_at args start (q ∷ rows) zero r e = ap (λ x. Some (row_root args start x)) (same_Some q r e)
roots_at args start (q ∷ rows) (suc n) r e = roots_at args q.end rows n r e

pub begin_zero : (start : ℕ) (rows : List Row) → begin_of start rows 0 ≡ start
begin_zero start [] = refl
begin_zero start (r ∷ rows) = refl

pub begin_next : (start : ℕ) (rows : List Row) (n : ℕ) (r : Row) → slice_get rows n ≡ Some r → n + 1 < length rows → begin_of start rows (n + 1) ≡ r.end
begin_next start rows n r e b = go start rows n r e b
  where
    step : (start : ℕ) (q : Row) (rows : List Row) (n : ℕ) → begin_of start (q ∷ rows) (n + 1) ≡ begin_of q.end rows n
    step start q rows n = let s : n + 1 ≡ suc n = omega arith in ap (begin_of start (q ∷ rows)) s

    go : (start : ℕ) (rows : List Row) (n : ℕ) (r : Row) → slice_get rows n ≡ Some r → n + 1 < length rows → begin_of start rows (n + 1) ≡ r.end
    go start [] n r e b = absurd (cc)
    go start (q ∷ rows) zero r e b = step start q rows 0 ∙ begin_zero q.end rows ∙ ap (λ x. x.end) (same_Some q r e)
    go start (q ∷ rows) (suc n) r e b = step start q rows (suc n) ∙ ap (begin_of q.end rows) (let s : suc n ≡ n + 1 = omega arith in s) ∙ go q.end rows n r e (omega arith)

-- what is known of a row and its root: its tree stands behind those before it
pub record Stands (table : List Tree) (n : ℕ) (r : Row) (p : PlainRoot) : Type 0 where
  pub front : List Tree
  pub rest : List Tree
  pub split : table ≡ front ++ tree_at front p ∷ rest
  pub place : length front ≡ n
  pub node : IsNode front p r.size r.depth
  pub first : r.is_first ≡ not (has front (tree_at front p))
  pub name : p.sort ≡ r.sort

trees_front : (args : List ℕ) (table : List Tree) (start : ℕ) (rows : List Row) → (rest : List Tree) × (trees_from args table start rows ≡ table ++ rest)
trees_front args table start [] = ([], sym (append-nil table))
trees_front args table start (r ∷ rs) =
    let t = tree_at table (row_root args start r) in
    let more = trees_front args (table ++ t ∷ []) r.end rs in (t ∷ more.0, more.1 ∙ append_assoc table (t ∷ []) more.0)

pub rows_at : (args : List ℕ) (table : List Tree) (start : ℕ) (rows : List Row) (n m : ℕ) (r : Row) → AreRowsFrom args table start rows → slice_get rows n ≡ Some r → m ≡ length table + n
    → Stands (trees_from args table start rows) m r (row_root args (begin_of start rows n) r) × (begin_of start rows n ≤ r.end) × (r.end ≤ length args)
rows_at args table start [] n m r h e is = absurd (cc)
rows_at args table start (q ∷ rows) zero m r h e is =
    let P : Row → Type 0 = λ x. Stands (trees_from args table start (q ∷ rows)) m x (row_root args start x) × (start ≤ x.end) × (x.end ≤ length args) in
    let t = tree_at table (row_root args start q) in
    let more = trees_front args (table ++ t ∷ []) q.end rows in
    let end = rows_ahead args (table ++ t ∷ []) q.end rows h.1 in
    subst P (same_Some q r e) (
      record {
        front = table;
        rest = more.0;
        split = more.1 ∙ append_assoc table (t ∷ []) more.0;
        place = omega arith;
        node = h.0.node;
        first = h.0.first;
        name = refl;
      },
      h.0.ahead,
      end,
    )
rows_at args table start (q ∷ rows) (suc n) m r h e is =
    let t = tree_at table (row_root args start q) in
    let l = length-append table (t ∷ []) in rows_at args (table ++ t ∷ []) q.end rows n m r h.1 e (omega (arith, l))

-- ---- roots in a table that goes on

pub there_later : (table rest : List Tree) (p : PlainRoot) → IsThere table p → firsts_at (table ++ rest) p.args ≡ firsts_at table p.args
there_later table rest p h = firsts_later table rest p.args (args_of (tree_at table p)) h ∙ sym h

pub tree_later : (table rest : List Tree) (p : PlainRoot) → IsThere table p → tree_at (table ++ rest) p ≡ tree_at table p
tree_later table rest p h = ap (λ o. node_of p.kind p.name p.sort (unwrap_or o [])) (there_later table rest p h)

pub is_there_later : (table rest : List Tree) (p : PlainRoot) → IsThere table p → IsThere (table ++ rest) p
is_there_later table rest p h = there_later table rest p h ∙ h ∙ ap (λ t. Some (args_of t)) (sym (tree_later table rest p h))

node_parts : (b c : Kind) (n m s k : ℕ) (ts us : List Tree) → node_of b n s ts ≡ node_of c m k us → (b ≡ c) × (n ≡ m) × (s ≡ k)
node_parts kinds.Variable kinds.Variable n m s k ts us e = (refl, cc, cc)
node_parts kinds.Variable kinds.Application n m s k ts us e = absurd (cc)
node_parts kinds.Application kinds.Variable n m s k ts us e = absurd (cc)
node_parts kinds.Application kinds.Application n m s k ts us e = (refl, cc, cc)

same_roots : (b c : Kind) (n m s k : ℕ) (ns ms : List ℕ) → b ≡ c → n ≡ m → s ≡ k → ns ≡ ms
    → ◌≡◌ {A = PlainRoot} (record { kind = b; name = n; sort = s; args = ns }) (record { kind = c; name = m; sort = k; args = ms })
same_roots b c n m s k ns ms e f g h =
    let a1 = ap {B = PlainRoot} (λ (x : Kind). record { kind = x; name = n; sort = s; args = ns }) e in
    let a2 = ap {B = PlainRoot} (λ (x : ℕ). record { kind = c; name = x; sort = s; args = ns }) f in
    let a3 = ap {B = PlainRoot} (λ (x : ℕ). record { kind = c; name = m; sort = x; args = ns }) g in
    let a4 = ap {B = PlainRoot} (λ (x : List ℕ). record { kind = c; name = m; sort = k; args = x }) h in a1 ∙ a2 ∙ a3 ∙ a4

-- a term has one root
pub roots_once : (table : List Tree) (p q : PlainRoot) → IsThere table p → IsThere table q → tree_at table p ≡ tree_at table q → p ≡ q
roots_once table p q g h e =
    let args = firsts_once table p.args q.args (args_of (tree_at table q)) (g ∙ ap (λ t. Some (args_of t)) e) h in
    let parts = node_parts p.kind q.kind p.name q.name p.sort q.sort (unwrap_or (firsts_at table p.args) []) (unwrap_or (firsts_at table q.args) []) e in
    same_roots p.kind q.kind p.name q.name p.sort q.sort p.args q.args parts.0 parts.1 parts.2 args

-- ---- what a row says of its tree

node_sort : (b : Kind) (n s : ℕ) (ts : List Tree) → sort_of (node_of b n s ts) ≡ s
node_sort kinds.Variable n s ts = refl
node_sort kinds.Application n s ts = refl

module _ {table : List Tree} {n : ℕ} {r : Row} {p : PlainRoot} (k : Stands table n r p) where
  abbrev pub own : Tree
  own = tree_at k.front p

  pub own_there : slice_get table n ≡ Some own
  own_there =
      let P : List Tree → Type 0 = λ ts. slice_get ts n ≡ Some own in
      let Q : ℕ → Type 0 = λ m. slice_get (k.front ++ own ∷ k.rest) m ≡ Some own in subst P (sym k.split) (subst Q k.place (get_seam k.front own k.rest))

  pub own_is : (t : Tree) → slice_get table n ≡ Some t → own ≡ t
  own_is t e = same_Some own t (sym own_there ∙ e)

  pub own_root : IsThere table p
  own_root = let P : List Tree → Type 0 = λ ts. IsThere ts p in subst P (sym k.split) (is_there_later k.front (own ∷ k.rest) p k.node.there)

  pub own_tree : tree_at table p ≡ own
  own_tree = ap (λ ts. tree_at ts p) k.split ∙ tree_later k.front (own ∷ k.rest) p k.node.there

  tree_is : (t : Tree) → slice_get table n ≡ Some t → tree_at table p ≡ t
  tree_is t e = own_tree ∙ own_is t e

  pub own_args : firsts_at table p.args ≡ Some (args_of own)
  own_args = ap (λ ts. firsts_at ts p.args) k.split ∙ there_later k.front (own ∷ k.rest) p k.node.there ∙ k.node.there

  pub own_before : AllByRecursion (λ m. m < n) p.args
  own_before = let P : ℕ → Type 0 = λ l. AllByRecursion (λ m. m < l) p.args in subst P k.place (firsts_below k.front p.args (args_of own) k.node.there)

  pub own_sort : sort_of own ≡ r.sort
  own_sort = node_sort p.kind p.name p.sort (unwrap_or (firsts_at k.front p.args) []) ∙ k.name

  pub own_node : own ≡ node_of p.kind p.name p.sort (args_of own)
  own_node = ap (λ o. node_of p.kind p.name p.sort (unwrap_or o [])) k.node.there

  pub own_few : length (args_of own) ≤ argument_limit
  own_few = let l = firsts_length k.front p.args (args_of own) k.node.there in omega (arith, l, k.node.few)

  -- whether it is the first of its kind
  number_first : has k.front own ≡ false → number_in table own ≡ n
  number_first h =
      let last = number_last k.front own h in
      let there : has (k.front ++ own ∷ []) own ≡ true = has_at (k.front ++ own ∷ []) (length k.front) own (get_seam k.front own []) in
      ap (λ ts. number_in ts own) (k.split ∙ sym (append_assoc k.front (own ∷ []) k.rest)) ∙ number_stays (k.front ++ own ∷ []) k.rest own there ∙ last ∙ k.place

  pub number_before : has k.front own ≡ true → number_in table own < n
  number_before h =
      let stays = ap (λ ts. number_in ts own) k.split ∙ number_stays k.front (own ∷ k.rest) own h in
      let within = slice_get_within k.front (number_in k.front own) own (number_names k.front own h) in omega (arith, stays, within, k.place)

  pub own_first : first_at table n ≡ (if r.is_first then Some own else None)
  own_first = go (has k.front own) refl
    where
      go : (b : Bool) → has k.front own ≡ b → first_at table n ≡ (if r.is_first then Some own else None)
      go true e =
          let under = number_before e in
          let mark : r.is_first ≡ false = k.first ∙ ap not e in
          let apart : (number_in table own == n) ≡ false = differ (number_in table own == n) refl under in
          ap (λ o. option_and_then (λ u. if number_in table u == n then Some u else None) o) own_there ∙ ap (λ b. if b then Some own else None) (apart ∙ sym mark)
        where
          differ : (b : Bool) → (number_in table own == n) ≡ b → number_in table own < n → b ≡ false
          differ true f under = let same = eqb-true (number_in table own) n f in absurd (omega arith)
          differ false f under = refl
      go false e =
          let mark : r.is_first ≡ true = k.first ∙ ap not e in
          first_made table n own own_there (number_first e) ∙ ap (λ b. if b then Some own else None) (sym mark)

pub root_known : (args : List ℕ) (rows : List Row) (n : ℕ) (p : PlainRoot) → AreRowsFrom args [] 0 rows → n < length rows → slice_get (roots_from args 0 rows) n ≡ Some p
    → (r : Row) × Stands (trees_from args [] 0 rows) n r p
root_known args rows n p h b e =
    let r = get_there rows n b in
    let P : PlainRoot → Type 0 = λ q. Stands (trees_from args [] 0 rows) n r.0 q in
    (r.0, subst P (same_Some (row_root args (begin_of 0 rows n) r.0) p (sym (roots_at args 0 rows n r.0 r.1) ∙ e)) (rows_at args [] 0 rows n n r.0 h r.1 (omega arith)).0)

pub root_size : (args : List ℕ) (rows : List Row) (n : ℕ) (r : Row) (p : PlainRoot) → AreRowsFrom args [] 0 rows → slice_get rows n ≡ Some r → slice_get (roots_from args 0 rows) n ≡ Some p
    → r.size ≡ size_of (tree_at (trees_from args [] 0 rows) p)
root_size args rows n r p h e f =
    let P : PlainRoot → Type 0 = λ q. Stands (trees_from args [] 0 rows) n r q in
    let same = same_Some (row_root args (begin_of 0 rows n) r) p (sym (roots_at args 0 rows n r e) ∙ f) in
    let k = subst P same (rows_at args [] 0 rows n n r h e (omega arith)).0 in k.node.size ∙ ap size_of (sym (own_tree k))

-- ---- a term is found by its root

pub found_root : (args : List ℕ) (rows : List Row) (n : ℕ) (p : PlainRoot) → AreRowsFrom args [] 0 rows → n < length rows → slice_get (roots_from args 0 rows) n ≡ Some p
    → has (trees_from args [] 0 rows) (tree_at (trees_from args [] 0 rows) p) ≡ true
found_root args rows n p h b e =
    let table = trees_from args [] 0 rows in
    let k = (root_known args rows n p h b e).1 in
    let P : Tree → Type 0 = λ t. has table t ≡ true in subst P (sym (own_tree k)) (has_at table n (own k) (own_there k))

root_named : (args : List ℕ) (rows : List Row) (n : ℕ) (p : PlainRoot) → AreRowsFrom args [] 0 rows → IsThere (trees_from args [] 0 rows) p
    → slice_get (trees_from args [] 0 rows) n ≡ Some (tree_at (trees_from args [] 0 rows) p) → slice_get (roots_from args 0 rows) n ≡ Some p
root_named args rows n p h there e = go q.0 q.1 (root_known args rows n q.0 h below q.1)
  where
    below : n < length rows
    below = omega (arith, slice_get_within (trees_from args [] 0 rows) n (tree_at (trees_from args [] 0 rows) p) e, length_trees args [] 0 rows)

    q : (x : PlainRoot) × (slice_get (roots_from args 0 rows) n ≡ Some x)
    q = get_there (roots_from args 0 rows) n (omega (arith, below, length_roots args 0 rows))

    go : (x : PlainRoot) → slice_get (roots_from args 0 rows) n ≡ Some x → (r : Row) × Stands (trees_from args [] 0 rows) n r x → slice_get (roots_from args 0 rows) n ≡ Some p
    go x f k =
        let table = trees_from args [] 0 rows in f ∙ ap Some (roots_once table x p (own_root k.1) there (tree_is k.1 (tree_at table p) e))

pub root_not_found : (args : List ℕ) (rows : List Row) (p : PlainRoot) → AreRowsFrom args [] 0 rows → IsThere (trees_from args [] 0 rows) p
    → ((n : ℕ) → slice_get (roots_from args 0 rows) n ≡ Some p → ⊥) → has (trees_from args [] 0 rows) (tree_at (trees_from args [] 0 rows) p) ≡ false
root_not_found args rows p h there none = go (has table t) refl
  where
    table : List Tree
    table = trees_from args [] 0 rows

    t : Tree
    t = tree_at table p

    go : (b : Bool) → has table t ≡ b → has table t ≡ false
    go true e = absurd (none (number_in table t) (root_named args rows (number_in table t) p h there (number_names table t e)))
    go false e = e

pub first_past : (table : List Tree) (n : ℕ) → length table ≤ n → first_at table n ≡ None
first_past table n h = ap (λ o. option_and_then (λ u. if number_in table u == n then Some u else None) o) (slice_get_past table n h)

-- each term is within the limits
pub trees_within : (args : List ℕ) (rows : List Row) (n : ℕ) (t : Tree) → AreRowsFrom args [] 0 rows → slice_get (trees_from args [] 0 rows) n ≡ Some t → IsWithinLimits t
trees_within args rows n t h e =
    let long = length_trees args [] 0 rows in
    let below = slice_get_within (trees_from args [] 0 rows) n t e in
    let r = get_there rows n (omega arith) in
    let k = (rows_at args [] 0 rows n n r.0 h r.1 (omega arith)).0 in let P : Tree → Type 0 = λ x. IsWithinLimits x in subst P (own_is k t e) k.node.within

-- all that is known once a term went last
pub pushed : (l new : Lines) (ns : List ℕ) (r : Row) → AreLines l → r.end ≡ length l.args.items + length ns → IsNode (trees l) (with_args r ns) r.size r.depth
    → r.is_first ≡ not (has (trees l) (tree_at (trees l) (with_args r ns))) → new.rows.items ≡ l.rows.items ++ r ∷ [] → new.args.items ≡ l.args.items ++ ns
    → HasMore l new (with_args r ns)
pushed l new ns r h e node first same_rows same_args =
    let args = l.args.items in
    let rows = l.rows.items in
    record {
      lines = rw (same_rows, same_args) (rows_pushed args ns [] 0 rows r h e node first);
      with_tree = rw (same_rows, same_args) (trees_pushed args ns [] 0 rows r h e);
      with_root = rw (same_rows, same_args) (roots_pushed args ns rows r h e);
    }
