-- What is open is written in order.
use Rattle.std.proofs.Common.{◌≡◌, ◌≤◌, ◌<◌, ℕ, ◌+◌, List, [], ◌∷◌, ◌++◌, map, length, reverse, true, false, Option, Some, None, refl, ap, sym, ◌∙◌, subst, arith, append_assoc, append-nil}
use Rattle.std.specs.List.{AllByRecursion}
use Rattle.circ_term.specs.Tree.{Tree}
use Rattle.circ_theory.specs.declared.way.Way.{Way}
use Rattle.circ_theory.specs.declared.way.Way.TheVariants.{Forth, Back}
use Rattle.circ_expansion.specs.Pieces.{Piece, Pieces, Parts, Equation_piece, Content_piece, Assumption_piece, Cases_piece, no_piece, more_pieces, no_part}
use Rattle.circ_expansion.specs.Pieces.{more_parts, pieces_joined, turned_piece, turned, turned_parts, other_way}
use Rattle.circ_expansion.specs.Expand.{by_way}
use Rattle.circ_written.specs.Rows.{PlainRow, Cases_row, Case_row, End_row, plain_row, piece_rows, rows_of, parts_rows}
use Rattle.circ_written.specs.Nodes.{Rope, Nothing, And_link, And_row, Around, No_parts, And_part, All_parts, rope_with, rope_at, row_of, parts_of, value_of, values_in, piece_of}
use Rattle.circ_written.specs.Nodes.{IsNodeAt, AreNodesFrom, ends_in_row}
use Rattle.circ_expansion.specs.Machine.{Value, In_row, In_parts, last_row}
use Rattle.circ_written.specs.Values.{IsLastRow}
use Rattle.circ_written.proofs.Ropes.{is_its_row}
use Rattle.circ_written.proofs.Stacked.{not_last}
use Rattle.circ_written.specs.Writing.{parts_by, composed, IsRowOf, due, all_due, weight, weight_of, all_weights, IsOpen, AreOpen, AddsOpen, WritesOne}
use Rattle.circ_written.specs.Writing.{in_order, three_in_order, cases_open, part_open, RowOpens, PartsOpen}
use Rattle.circ_written.specs.declared.rows.Row.{Row}
use Rattle.circ_written.specs.declared.rows.Row.TheVariants as row
use Rattle.circ_written.specs.declared.nodes.Node.{Node}
use Rattle.circ_written.specs.declared.nodes.Node.TheVariants as node
use Rattle.circ_written.specs.declared.rows.Given.{Given}
use Rattle.circ_written.specs.Rows.{given_bound}
use Rattle.circ_expansion.specs.Expand.{Stopped}
use Rattle.std.specs.Global.{Vec}
use Rattle.std.specs.Prelude.{Result, Ok, Err, OnOk, IfOk}
use Rattle.circ_term.specs.Subst.{Bound}
use Rattle.circ_written.specs.declared.writing.Open.{Open}
use Rattle.circ_written.specs.declared.writing.Open.TheVariants as ahead

-- ---- pieces one after another

abbrev single : Piece → Pieces
single x = more_pieces x no_piece

joined_again : (xs ys zs : Pieces) → pieces_joined (pieces_joined xs ys) zs ≡ pieces_joined xs (pieces_joined ys zs)
joined_again no_piece ys zs = refl
joined_again (more_pieces x xs) ys zs = ap (more_pieces x) (joined_again xs ys zs)

joined_none : (xs : Pieces) → pieces_joined xs no_piece ≡ xs
joined_none no_piece = refl
joined_none (more_pieces x xs) = ap (more_pieces x) (joined_none xs)

rows_joined : (xs ys : Pieces) → rows_of (pieces_joined xs ys) ≡ rows_of xs ++ rows_of ys
rows_joined no_piece ys = refl
rows_joined (more_pieces x xs) ys =
    ap (λ rs. piece_rows x ++ rs) (rows_joined xs ys) ∙ sym (append_assoc (piece_rows x) (rows_of xs) (rows_of ys))

turned_joined : (xs ys : Pieces) → turned (pieces_joined xs ys) ≡ pieces_joined (turned ys) (turned xs)
turned_joined no_piece ys = sym (joined_none (turned ys))
turned_joined (more_pieces x xs) ys =
    ap (λ zs. pieces_joined zs (single (turned_piece x))) (turned_joined xs ys) ∙ joined_again (turned ys) (turned xs) (single (turned_piece x))

other_twice : (w : Way) → other_way (other_way w) ≡ w
other_twice Forth = refl
other_twice Back = refl

mutual
  piece_twice : (x : Piece) → turned_piece (turned_piece x) ≡ x
  piece_twice (Equation_piece number way path terms) = ap (λ w. Equation_piece number w path terms) (other_twice way)
  piece_twice (Content_piece op path old new by) = refl
  piece_twice (Assumption_piece number way path) = ap (λ w. Assumption_piece number w path) (other_twice way)
  piece_twice (Cases_piece term parts) = ap (Cases_piece term) (parts_twice parts)

  turned_twice : (xs : Pieces) → turned (turned xs) ≡ xs
  turned_twice no_piece = refl
  turned_twice (more_pieces x xs) =
      turned_joined (turned xs) (single (turned_piece x)) ∙ ap (λ y. more_pieces y (turned (turned xs))) (piece_twice x)
      ∙ ap (more_pieces x) (turned_twice xs)

  parts_twice : (ps : Parts) → turned_parts (turned_parts ps) ≡ ps
  parts_twice no_part = refl
  parts_twice (more_parts p ps) = ap (λ q. more_parts q (turned_parts (turned_parts ps))) (turned_twice p) ∙ ap (more_parts p) (parts_twice ps)

-- a way within another
pub by_composed : (own way : Way) (xs : Pieces) → by_way (composed own way) xs ≡ by_way way (by_way own xs)
by_composed Forth Forth xs = refl
by_composed Back Forth xs = refl
by_composed Forth Back xs = refl
by_composed Back Back xs = sym (turned_twice xs)

-- ---- what is opened

rows_then : (xs ys : Pieces) (rest : List PlainRow) → rows_of (pieces_joined xs ys) ++ rest ≡ rows_of xs ++ (rows_of ys ++ rest)
rows_then xs ys rest = ap (λ rs. rs ++ rest) (rows_joined xs ys) ∙ append_assoc (rows_of xs) (rows_of ys) rest

opened_two : (ns : List Node) (w : Way) (first next : Open) (xs ys : Pieces) → due ns first ≡ rows_of (by_way w xs) → due ns next ≡ rows_of (by_way w ys)
    → (rest : List PlainRow) → all_due ns (in_order w first next) rest ≡ rows_of (by_way w (pieces_joined xs ys)) ++ rest
opened_two ns Forth first next xs ys e f rest =
    ap (λ rs. rs ++ (due ns next ++ rest)) e ∙ ap (λ rs. rows_of xs ++ (rs ++ rest)) f ∙ sym (rows_then xs ys rest)
opened_two ns Back first next xs ys e f rest =
    ap (λ rs. rs ++ (due ns first ++ rest)) f ∙ ap (λ rs. rows_of (turned ys) ++ (rs ++ rest)) e ∙ sym (rows_then (turned ys) (turned xs) rest)
    ∙ ap (λ zs. rows_of zs ++ rest) (sym (turned_joined xs ys))

opened_three : (ns : List Node) (w : Way) (l m r : ℕ) (rest : List PlainRow) → all_due ns (three_in_order w l m r) rest
    ≡ rows_of (by_way w (pieces_joined (row_of (rope_at ns l)) (pieces_joined (row_of (rope_at ns m)) (turned (row_of (rope_at ns r)))))) ++ rest
opened_three ns Forth l m r rest =
    let xs = row_of (rope_at ns l) in
    let ys = row_of (rope_at ns m) in
    let zs = row_of (rope_at ns r) in
    sym (rows_then xs (pieces_joined ys (turned zs)) rest ∙ ap (λ rs. rows_of xs ++ rs) (rows_then ys (turned zs) rest))
opened_three ns Back l m r rest =
    let xs = row_of (rope_at ns l) in
    let ys = row_of (rope_at ns m) in
    let zs = row_of (rope_at ns r) in
    let all : turned (pieces_joined xs (pieces_joined ys (turned zs))) ≡ pieces_joined zs (pieces_joined (turned ys) (turned xs)) =
    turned_joined xs (pieces_joined ys (turned zs)) ∙ ap (λ us. pieces_joined us (turned xs)) (turned_joined ys (turned zs))
    ∙ ap (λ us. pieces_joined (pieces_joined us (turned ys)) (turned xs)) (turned_twice zs) ∙ joined_again zs (turned ys) (turned xs) in
    sym (ap (λ us. rows_of us ++ rest) all ∙ rows_then zs (pieces_joined (turned ys) (turned xs)) rest
    ∙ ap (λ rs. rows_of zs ++ rs) (rows_then (turned ys) (turned xs) rest))

cases_are : (u : Tree) (ps : Parts) (rest : List PlainRow) → Cases_row u ∷ (parts_rows ps ++ (End_row ∷ rest)) ≡ rows_of (single (Cases_piece u ps)) ++ rest
cases_are u ps rest =
    let rs = Cases_row u ∷ (parts_rows ps ++ End_row ∷ []) in
    ap (λ qs. Cases_row u ∷ qs) (sym (append_assoc (parts_rows ps) (End_row ∷ []) rest)) ∙ ap (λ qs. qs ++ rest) (sym (append-nil rs))

opened_cases : (ns : List Node) (w : Way) (u : Tree) (k : ℕ) (rest : List PlainRow) → all_due ns (cases_open u k w) rest
    ≡ rows_of (by_way w (single (Cases_piece u (parts_of (rope_at ns k))))) ++ rest
opened_cases ns Forth u k rest = cases_are u (parts_of (rope_at ns k)) rest
opened_cases ns Back u k rest = cases_are u (turned_parts (parts_of (rope_at ns k))) rest

opened_part : (ns : List Node) (w : Way) (k j : ℕ) (rest : List PlainRow) → all_due ns (part_open k j w) rest
    ≡ parts_rows (parts_by w (more_parts (row_of (rope_at ns k)) (parts_of (rope_at ns j)))) ++ rest
opened_part ns Forth k j rest =
    ap (λ qs. Case_row ∷ qs) (sym (append_assoc (rows_of (row_of (rope_at ns k))) (parts_rows (parts_of (rope_at ns j))) rest))
opened_part ns Back k j rest =
    ap (λ qs. Case_row ∷ qs) (sym (append_assoc (rows_of (turned (row_of (rope_at ns k)))) (parts_rows (turned_parts (parts_of (rope_at ns j)))) rest))

some_weight : (r : Rope) → 0 < weight r
some_weight Nothing = omega arith
some_weight (And_link first link) = omega arith
some_weight (And_row first way next) = omega arith
some_weight (Around left middle right) = omega arith
some_weight No_parts = omega arith
some_weight (And_part first others) = omega arith
some_weight (All_parts term parts) = omega arith

-- ---- what a node opens

no_rows : (w : Way) → rows_of (by_way w no_piece) ≡ []
no_rows Forth = refl
no_rows Back = refl

no_parts : (w : Way) → parts_rows (parts_by w no_part) ≡ []
no_parts Forth = refl
no_parts Back = refl

pub opens_no_row : (ns : List Node) (w : Way) (os : List Open) (x y : Rope) → x ≡ y → row_of y ≡ no_piece → RowOpens ns w os os x
opens_no_row ns w os x y e f = record {
  added = [];
  new_are = sym (append-nil os);
  are = tt;
  rows_are = λ rest. ap (λ rs. rs ++ rest) (sym (ap (λ r. rows_of (by_way w (row_of r))) e ∙ ap (λ zs. rows_of (by_way w zs)) f ∙ no_rows w));
  lighter = some_weight x;
}

pub opens_no_parts : (ns : List Node) (w : Way) (os : List Open) (x y : Rope) → x ≡ y → parts_of y ≡ no_part → PartsOpen ns w os os x
opens_no_parts ns w os x y e f = record {
  added = [];
  new_are = sym (append-nil os);
  are = tt;
  rows_are = λ rest. ap (λ rs. rs ++ rest) (sym (ap (λ r. parts_rows (parts_by w (parts_of r))) e ∙ ap (λ zs. parts_rows (parts_by w zs)) f ∙ no_parts w));
  lighter = some_weight x;
}

two_open : (ns : List Node) (w : Way) (first next : Open) → IsOpen ns first → IsOpen ns next → AreOpen ns (in_order w first next)
two_open ns Forth first next a b = (b, (a, tt))
two_open ns Back first next a b = (a, (b, tt))

two_weights : (ns : List Node) (w : Way) (first next : Open) → all_weights ns (in_order w first next) ≡ weight_of ns first + weight_of ns next
two_weights ns Forth first next = omega arith
two_weights ns Back first next = omega arith

pub opens_link : (ns : List Node) (w : Way) (old new : List Open) (x : Rope) (k : ℕ) (link r : Row) → x ≡ And_link (rope_at ns k) link → k < length ns
    → IsRowOf link w r → new ≡ old ++ in_order w (ahead.Row k w) (ahead.Ready r) → RowOpens ns w old new x
opens_link ns w old new x k link r e h i f =
    let z = two_weights ns w (ahead.Row k w) (ahead.Ready r) in
    subst (RowOpens ns w old new) (sym e)
    (record {
      added = in_order w (ahead.Row k w) (ahead.Ready r);
      new_are = f;
      are = two_open ns w (ahead.Row k w) (ahead.Ready r) h tt;
      rows_are = opened_two ns w (ahead.Row k w) (ahead.Ready r) (row_of (rope_at ns k)) (single (piece_of link)) refl i;
      lighter = omega (arith, z);
    })

pub opens_behind : (ns : List Node) (w : Way) (old new : List Open) (x : Rope) (k : ℕ) (own : Way) (j : ℕ) → x ≡ And_row (rope_at ns k) own (rope_at ns j)
    → k < length ns → j < length ns → (v : Way) → v ≡ composed own w → new ≡ old ++ in_order w (ahead.Row k w) (ahead.Row j v) → RowOpens ns w old new x
opens_behind ns w old new x k own j e h i v g f =
    let z = two_weights ns w (ahead.Row k w) (ahead.Row j v) in
    let ys = row_of (rope_at ns j) in
    let second : rows_of (by_way v ys) ≡ rows_of (by_way w (by_way own ys)) =
    ap (λ u. rows_of (by_way u ys)) g ∙ ap rows_of (by_composed own w ys) in
    subst (RowOpens ns w old new) (sym e)
    (record {
      added = in_order w (ahead.Row k w) (ahead.Row j v);
      new_are = f;
      are = two_open ns w (ahead.Row k w) (ahead.Row j v) h i;
      rows_are = opened_two ns w (ahead.Row k w) (ahead.Row j v) (row_of (rope_at ns k)) (by_way own ys) refl second;
      lighter = omega (arith, z);
    })

three_open : (ns : List Node) (w : Way) (l m r : ℕ) → l < length ns → m < length ns → r < length ns → AreOpen ns (three_in_order w l m r)
three_open ns Forth l m r a b c = (c, (b, (a, tt)))
three_open ns Back l m r a b c = (a, (b, (c, tt)))

three_weights : (ns : List Node) (w : Way) (l m r : ℕ)
    → all_weights ns (three_in_order w l m r) ≡ weight (rope_at ns l) + (weight (rope_at ns m) + weight (rope_at ns r))
three_weights ns Forth l m r = omega arith
three_weights ns Back l m r = omega arith

pub opens_between : (ns : List Node) (w : Way) (old new : List Open) (x : Rope) (l m r : ℕ) → x ≡ Around (rope_at ns l) (rope_at ns m) (rope_at ns r)
    → l < length ns → m < length ns → r < length ns → new ≡ old ++ three_in_order w l m r → RowOpens ns w old new x
opens_between ns w old new x l m r e a b c f =
    let z = three_weights ns w l m r in
    subst (RowOpens ns w old new) (sym e)
    (record {
      added = three_in_order w l m r;
      new_are = f;
      are = three_open ns w l m r a b c;
      rows_are = opened_three ns w l m r;
      lighter = omega (arith, z);
    })

pub opens_cases : (ns : List Node) (w : Way) (old new : List Open) (x : Rope) (u : Tree) (k : ℕ) → x ≡ All_parts u (rope_at ns k) → k < length ns
    → new ≡ old ++ cases_open u k w → RowOpens ns w old new x
opens_cases ns w old new x u k e h f =
    subst (RowOpens ns w old new) (sym e)
    (record { added = cases_open u k w; new_are = f; are = (tt, (h, (tt, tt))); rows_are = opened_cases ns w u k; lighter = omega arith })

pub opens_part : (ns : List Node) (w : Way) (old new : List Open) (x : Rope) (k j : ℕ) → x ≡ And_part (rope_at ns k) (rope_at ns j) → k < length ns
    → j < length ns → new ≡ old ++ part_open k j w → PartsOpen ns w old new x
opens_part ns w old new x k j e h i f =
    subst (PartsOpen ns w old new) (sym e)
    (record { added = part_open k j w; new_are = f; are = (i, (h, (tt, tt))); rows_are = opened_part ns w k j; lighter = omega arith })

-- ---- one turn

all_due_front : (ns : List Node) (os ps : List Open) (rest : List PlainRow) → all_due ns (os ++ ps) rest ≡ all_due ns ps (all_due ns os rest)
all_due_front ns [] ps rest = refl
all_due_front ns (o ∷ os) ps rest = all_due_front ns os ps (due ns o ++ rest)

weights_front : (ns : List Node) (os ps : List Open) → all_weights ns (os ++ ps) ≡ all_weights ns os + all_weights ns ps
weights_front ns [] ps = omega arith
weights_front ns (o ∷ os) ps = let z = weights_front ns os ps in omega (arith, z)

open_front : (ns : List Node) (os ps : List Open) → AreOpen ns os → AreOpen ns ps → AreOpen ns (os ++ ps)
open_front ns [] ps a b = b
open_front ns (o ∷ os) ps a b = (a.0, open_front ns os ps a.1 b)

-- what is opened is what was next
pub opened_next : (ns : List Node) (next : Open) (old new : List Open) (rows : List Row) → AddsOpen ns old new (due ns next) (weight_of ns next)
    → WritesOne ns next old new rows rows
opened_next ns next old new rows a =
    let z = weights_front ns old a.added in
    let y = ap (all_weights ns) a.new_are in
    record {
      are = λ b. subst (AreOpen ns) (sym a.new_are) (open_front ns old a.added b a.are);
      same =
          ap (λ qs. map plain_row rows ++ qs)
          (ap (λ os. all_due ns os []) a.new_are ∙ all_due_front ns old a.added [] ∙ a.rows_are (all_due ns old []));
      lighter = omega (arith, z, y, a.lighter);
    }

map_last : {X Y : Type 0} (f : X → Y) (xs : List X) (x : X) → map f (xs ++ x ∷ []) ≡ map f xs ++ f x ∷ []
map_last f [] x = refl
map_last f (y ∷ xs) x = ap (λ ys. f y ∷ ys) (map_last f xs x)

pub ready_written : (ns : List Node) (r : Row) (old : List Open) (rows written : List Row) → written ≡ rows ++ r ∷ []
    → WritesOne ns (ahead.Ready r) old old rows written
ready_written ns r old rows written e = record {
  are = λ b. b;
  same =
      ap (λ qs. map plain_row qs ++ all_due ns old []) e ∙ ap (λ qs. qs ++ all_due ns old []) (map_last plain_row rows r)
      ∙ append_assoc (map plain_row rows) (plain_row r ∷ []) (all_due ns old []);
  lighter = omega arith;
}

-- the next one is taken from the end
pub last_due : (ns : List Node) (os : List Open) (o : Open) (rest : List PlainRow) → all_due ns (os ++ o ∷ []) rest ≡ due ns o ++ all_due ns os rest
last_due ns os o rest = all_due_front ns os (o ∷ []) rest

pub last_weight : (ns : List Node) (os : List Open) (o : Open) → all_weights ns (os ++ o ∷ []) ≡ weight_of ns o + all_weights ns os
last_weight ns os o = let z = weights_front ns os (o ∷ []) in omega (arith, z)

pub last_open : (ns : List Node) (os : List Open) (o : Open) → AreOpen ns (os ++ o ∷ []) → AreOpen ns os × IsOpen ns o
last_open ns [] o a = (tt, a.0)
last_open ns (p ∷ os) o a = let r = last_open ns os o a.1 in ((a.0, r.0), r.1)

-- ---- answers

pub on_ok : {A E P Q : Type 0} (r : Result A E) → (P → Q) → OnOk r P → OnOk r Q
on_ok (Ok a) f h = f h
on_ok (Err e) f h = h

-- the same of the rope that this one is
pub of_rope : {A E : Type 0} (r : Result A E) (P : Rope → Type 0) (x y : Rope) → x ≡ y → OnOk r (P y) → OnOk r (P x)
of_rope r P x y e h = on_ok r (subst P (sym e)) h

abbrev pub bound_as : (number sort : ℕ) → Tree → Bound
bound_as n s t = record { number = n; sort = s; term = t }

-- the rows of the one value that is left
pub one_row : (r : Rope) (rows : Vec Row) → ends_in_row (value_of r ∷ []) ≡ true → map plain_row rows.items ≡ rows_of (row_of r)
    → IsLastRow (value_of r ∷ []) (Some rows)
one_row r rows e f = (row_of r, ap (λ v. v ∷ []) (is_its_row r e), f)

pub no_row : (r : Rope) → ends_in_row (value_of r ∷ []) ≡ false → IsLastRow (value_of r ∷ []) None
no_row r e = not_last (value_of r ∷ []) e

more_left : (vs : List Value) (v : Value) → 0 < length vs → (n : ℕ) → last_row (vs ++ v ∷ []) n ≡ Stopped
more_left [] v h n = absurd (omega arith)
more_left (In_row x ∷ []) v h n = refl
more_left (In_row x ∷ w ∷ ws) v h n = refl
more_left (In_parts ps ∷ vs) v h n = refl

pub same_link : (link copied : Row) (w : Way) (r : Row) → piece_of link ≡ piece_of copied → IsRowOf link w r → IsRowOf copied w r
same_link link copied w r e h = h ∙ ap (λ x. rows_of (by_way w (single x))) e
