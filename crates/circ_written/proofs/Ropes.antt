-- Nodes that are put behind others, and the values of numbers.
use Rattle.std.proofs.Common.{◌≡◌, ◌≤◌, ◌<◌, ℕ, ◌+◌, ◌-◌, true, false, List, [], ◌∷◌, ◌++◌, zero, suc, map, length, reverse, get_or, Bool, Option, Some, None, unwrap_or}
use Rattle.std.proofs.Common.{refl, ap, sym, ◌∙◌, subst, arith}
use Rattle.std.specs.List.{slice_get, AllByRecursion}
use Rattle.std.proofs.lemmas.List.{reverse-append, map-append}
use Rattle.std.proofs.lemmas.Option.{same_Some}
use Rattle.circ_expansion.specs.Machine.{Value, In_row, In_parts}
use Rattle.circ_written.specs.Nodes.{Rope, Nothing, And_link, And_row, Around, No_parts, And_part, All_parts, rope_with, rope_in, ropes_behind, rope_at}
use Rattle.circ_written.specs.Nodes.{TakesRow, TakesParts, row_of, parts_of, value_of, values_in, ends_in_row, ends_in_parts, IsNodeAt, AreNodesFrom, AreValues}
use Rattle.circ_written.specs.declared.nodes.Node.{Node}
use Rattle.circ_written.specs.declared.nodes.Node.TheVariants as node
use Rattle.circ_expansion.proofs.Alike.{longer}

get_front : {X : Type 0} (xs ys : List X) (k : ℕ) → k < length xs → slice_get (xs ++ ys) k ≡ slice_get xs k
get_front [] ys k h = absurd (omega arith)
get_front (x ∷ xs) ys zero h = refl
get_front (x ∷ xs) ys (suc k) h = get_front xs ys k (omega arith)

get_last : {X : Type 0} (xs : List X) (y : X) → slice_get (xs ++ y ∷ []) (length xs) ≡ Some y
get_last [] y = refl
get_last (x ∷ xs) y = get_last xs y

-- ---- ropes

abbrev one_more : List Rope → Node → List Rope
one_more rs n = rs ++ rope_with (rope_in rs) n ∷ []

ropes_long : (rs : List Rope) (ns : List Node) → length (ropes_behind rs ns) ≡ length rs + length ns
ropes_long rs [] = omega arith
ropes_long rs (n ∷ ns) = let e = ropes_long (one_more rs n) ns in let l = longer rs (rope_with (rope_in rs) n) in omega (arith, e, l)

ropes_last : (rs : List Rope) (ns : List Node) (x : Node) → ropes_behind rs (ns ++ x ∷ []) ≡ one_more (ropes_behind rs ns) x
ropes_last rs [] x = refl
ropes_last rs (n ∷ ns) x = ropes_last (one_more rs n) ns x

-- those before are as they were
before_same : (rs : List Rope) (ns : List Node) (k : ℕ) → k < length rs → rope_in (ropes_behind rs ns) k ≡ rope_in rs k
before_same rs [] k h = refl
before_same rs (n ∷ ns) k h =
    let r = rope_with (rope_in rs) n in
    let l = longer rs r in
    before_same (one_more rs n) ns k (omega (arith, h, l)) ∙ ap (λ o. unwrap_or o Nothing) (get_front rs (r ∷ []) k h)

-- what a node stands for goes by the nodes that it names
with_same : (g h : ℕ → Rope) (b : ℕ) → ((k : ℕ) → k < b → g k ≡ h k) → (n : Node) → IsNodeAt b n → rope_with g n ≡ rope_with h n
with_same g h b e node.Empty a = refl
with_same g h b e (node.Link first row) a = ap (λ r. And_link r row) (e first a.0)
with_same g h b e (node.Behind first way next) a = ap (λ r. And_row r way (g next)) (e first a.0) ∙ ap (And_row (h first) way) (e next a.1)
with_same g h b e (node.Between left middle right) a =
    ap (λ r. Around r (g middle) (g right)) (e left a.0) ∙ ap (λ r. Around (h left) r (g right)) (e middle a.1.0)
    ∙ ap (Around (h left) (h middle)) (e right a.1.1)
with_same g h b e node.NoPart a = refl
with_same g h b e (node.Part first others) a = ap (λ r. And_part r (g others)) (e first a.0) ∙ ap (And_part (h first)) (e others a.1)
with_same g h b e (node.Cases term parts) a = ap (All_parts term) (e parts a)

node_is_from : (rs : List Rope) (ns : List Node) → AreNodesFrom (length rs) ns → (k : ℕ) (x : Node) → x ≡ get_or ns k x → k < length ns
    → rope_in (ropes_behind rs ns) (length rs + k) ≡ rope_with (rope_in (ropes_behind rs ns)) x
node_is_from rs [] a k x e h = absurd (omega arith)
node_is_from rs (n ∷ ns) a zero x e h =
    let r = rope_with (rope_in rs) n in
    let l = longer rs r in
    let whole = rope_in (ropes_behind rs (n ∷ ns)) in
    let z : length rs + 0 ≡ length rs = omega arith in
    ap whole z ∙ before_same (one_more rs n) ns (length rs) (omega (arith, l)) ∙ ap (λ o. unwrap_or o Nothing) (get_last rs r)
    ∙ with_same (rope_in rs) whole (length rs) (λ j lt. sym (before_same rs (n ∷ ns) j lt)) n a.0 ∙ ap (rope_with whole) (sym e)
node_is_from rs (n ∷ ns) a (suc k) x e h =
    let l = longer rs (rope_with (rope_in rs) n) in
    let z : length rs + suc k ≡ length (one_more rs n) + k = omega (arith, l) in
    let b : AreNodesFrom (length (one_more rs n)) ns = subst (λ j. AreNodesFrom j ns) (sym l) a.1 in
    ap (rope_in (ropes_behind rs (n ∷ ns))) z ∙ node_is_from (one_more rs n) ns b k x e (omega arith)

pub node_is : (ns : List Node) → AreNodesFrom 0 ns → (k : ℕ) (x : Node) → x ≡ get_or ns k x → k < length ns → rope_at ns k ≡ rope_with (rope_at ns) x
node_is ns a k x e h =
    let z : k ≡ 0 + k = omega arith in
    ap (rope_at ns) z ∙ node_is_from [] ns a k x e h

pub node_at : (b : ℕ) (ns : List Node) → AreNodesFrom b ns → (k : ℕ) (x : Node) → x ≡ get_or ns k x → k < length ns → IsNodeAt (b + k) x
node_at b [] a k x e h = absurd (omega arith)
node_at b (n ∷ ns) a zero x e h =
    let z : b ≡ b + 0 = omega arith in
    subst (λ j. IsNodeAt j x) z (subst (IsNodeAt b) (sym e) a.0)
node_at b (n ∷ ns) a (suc k) x e h =
    let z : suc b + k ≡ b + suc k = omega arith in
    subst (λ j. IsNodeAt j x) z (node_at (suc b) ns a.1 k x e (omega arith))

pub old_rope : (ns : List Node) (x : Node) (k : ℕ) → k < length ns → rope_at (ns ++ x ∷ []) k ≡ rope_at ns k
old_rope ns x k h =
    let l = ropes_long [] ns in
    ap (λ rs. rope_in rs k) (ropes_last [] ns x)
    ∙ ap (λ o. unwrap_or o Nothing) (get_front (ropes_behind [] ns) (rope_with (rope_at ns) x ∷ []) k (omega (arith, h, l)))

pub new_rope : (ns : List Node) (x : Node) → rope_at (ns ++ x ∷ []) (length ns) ≡ rope_with (rope_at ns) x
new_rope ns x =
    let rs = ropes_behind [] ns in
    let l = ropes_long [] ns in
    let z : length ns ≡ length rs = omega (arith, l) in
    ap (λ qs. rope_in qs (length ns)) (ropes_last [] ns x) ∙ ap (rope_in (one_more rs x)) z
    ∙ ap (λ o. unwrap_or o Nothing) (get_last rs (rope_with (rope_at ns) x))

-- ---- the numbers

pub last_number : (P : ℕ → Type 0) (ks : List ℕ) (k : ℕ) → AllByRecursion P (ks ++ k ∷ []) → AllByRecursion P ks × P k
last_number P [] k a = (tt, a.0)
last_number P (j ∷ ks) k a = let r = last_number P ks k a.1 in ((a.0, r.0), r.1)

and_number : (P : ℕ → Type 0) (ks : List ℕ) (k : ℕ) → AllByRecursion P ks → P k → AllByRecursion P (ks ++ k ∷ [])
and_number P [] k a p = (p, tt)
and_number P (j ∷ ks) k a p = (a.0, and_number P ks k a.1 p)

wider : (a b : ℕ) → a ≤ b → (ks : List ℕ) → AllByRecursion (λ k. k < a) ks → AllByRecursion (λ k. k < b) ks
wider a b le [] h = tt
wider a b le (k ∷ ks) h = let z = h.0 in (omega (arith, z, le), wider a b le ks h.1)

and_node : (b : ℕ) (ns : List Node) (x : Node) → AreNodesFrom b ns → IsNodeAt (b + length ns) x → AreNodesFrom b (ns ++ x ∷ [])
and_node b [] x a p = let z : b + 0 ≡ b = omega arith in (subst (λ j. IsNodeAt j x) z p, tt)
and_node b (n ∷ ns) x a p =
    let z : b + suc (length ns) ≡ suc b + length ns = omega arith in
    (a.0, and_node (suc b) ns x a.1 (subst (λ j. IsNodeAt j x) z p))

pub node_put : (ns : List Node) (ks : List ℕ) (x : Node) → AreValues ns ks → IsNodeAt (length ns) x → AreValues (ns ++ x ∷ []) ks
node_put ns ks x a p =
    let l = longer ns x in
    let z : length ns ≡ 0 + length ns = omega arith in
    (and_node 0 ns x a.0 (subst (λ j. IsNodeAt j x) z p), wider (length ns) (length (ns ++ x ∷ [])) (omega (arith, l)) ks a.1)

pub number_put : (ns : List Node) (ks : List ℕ) (k : ℕ) → AreValues ns ks → k < length ns → AreValues ns (ks ++ k ∷ [])
number_put ns ks k a h = (a.0, and_number (λ j. j < length ns) ks k a.1 h)

pub number_taken : (ns : List Node) (ks : List ℕ) (k : ℕ) → AreValues ns (ks ++ k ∷ []) → AreValues ns ks × (k < length ns)
number_taken ns ks k a = let r = last_number (λ j. j < length ns) ks k a.1 in ((a.0, r.0), r.1)

-- ---- their values

abbrev value_at : List Node → ℕ → Value
value_at ns k = value_of (rope_at ns k)

pub value_first : (ns : List Node) (ks : List ℕ) (k : ℕ) → values_in ns (ks ++ k ∷ []) ≡ value_of (rope_at ns k) ∷ values_in ns ks
value_first ns ks k = ap (map (value_at ns)) (reverse-append ks (k ∷ []))

values_old : (ns : List Node) (x : Node) (ks : List ℕ) → AllByRecursion (λ k. k < length ns) ks → values_in (ns ++ x ∷ []) ks ≡ values_in ns ks
values_old ns x [] a = refl
values_old ns x (k ∷ ks) a =
    let split : (f : ℕ → Value) → map f (reverse (k ∷ ks)) ≡ map f (reverse ks) ++ f k ∷ [] =
    λ f. ap (map f) (reverse-append (k ∷ []) ks) ∙ map-append f (reverse ks) (k ∷ []) in
    split (value_at (ns ++ x ∷ [])) ∙ ap (λ vs. vs ++ value_at (ns ++ x ∷ []) k ∷ []) (values_old ns x ks a.1)
    ∙ ap (λ r. values_in ns ks ++ value_of r ∷ []) (old_rope ns x k a.0) ∙ sym (split (value_at ns))

pub values_put : (ns : List Node) (ks : List ℕ) (x : Node) → AllByRecursion (λ k. k < length ns) ks
    → values_in (ns ++ x ∷ []) (ks ++ length ns ∷ []) ≡ value_of (rope_with (rope_at ns) x) ∷ values_in ns ks
values_put ns ks x a =
    value_first (ns ++ x ∷ []) ks (length ns) ∙ ap (λ r. value_of r ∷ values_in (ns ++ x ∷ []) ks) (new_rope ns x)
    ∙ ap (λ vs. value_of (rope_with (rope_at ns) x) ∷ vs) (values_old ns x ks a)

pub put_half : (ns ms : List Node) (ks ls : List ℕ) (x : Node) → ms ≡ ns ++ x ∷ [] → ls ≡ ks → AreValues ns ks → IsNodeAt (length ns) x → AreValues ms ls
put_half ns ms ks ls x e f a p = subst (AreValues ms) (sym f) (subst (λ qs. AreValues qs ks) (sym e) (node_put ns ks x a p))

pub put_whole : (ns ms : List Node) (ks ls : List ℕ) (x : Node) (k : ℕ) → ms ≡ ns ++ x ∷ [] → ls ≡ ks ++ k ∷ [] → k ≡ length ns → AreValues ns ks
    → IsNodeAt (length ns) x → AreValues ms ls
put_whole ns ms ks ls x k e f g a p =
    let l = longer ns x in
    let h : k < length (ns ++ x ∷ []) = omega (arith, l, g) in
    subst (AreValues ms) (sym f) (subst (λ qs. AreValues qs (ks ++ k ∷ [])) (sym e) (number_put (ns ++ x ∷ []) ks k (node_put ns ks x a p) h))

pub put_is : (ns ms : List Node) (ks ls : List ℕ) (x : Node) (k : ℕ) → ms ≡ ns ++ x ∷ [] → ls ≡ ks ++ k ∷ [] → k ≡ length ns → AreValues ns ks
    → values_in ms ls ≡ value_of (rope_with (rope_at ns) x) ∷ values_in ns ks
put_is ns ms ks ls x k e f g a =
    ap (values_in ms) f ∙ ap (λ qs. values_in qs (ks ++ k ∷ [])) e ∙ ap (λ j. values_in (ns ++ x ∷ []) (ks ++ j ∷ [])) g ∙ values_put ns ks x a.1

-- ---- rows, and parts

pub is_its_row : (r : Rope) → ends_in_row (value_of r ∷ []) ≡ true → value_of r ≡ In_row (row_of r)
is_its_row Nothing e = refl
is_its_row (And_link first link) e = refl
is_its_row (And_row first way next) e = refl
is_its_row (Around left middle right) e = refl
is_its_row No_parts e = absurd (cc)
is_its_row (And_part first others) e = absurd (cc)
is_its_row (All_parts term parts) e = refl

pub are_its_parts : (r : Rope) → ends_in_row (value_of r ∷ []) ≡ false → value_of r ≡ In_parts (parts_of r)
are_its_parts Nothing e = absurd (cc)
are_its_parts (And_link first link) e = absurd (cc)
are_its_parts (And_row first way next) e = absurd (cc)
are_its_parts (Around left middle right) e = absurd (cc)
are_its_parts No_parts e = refl
are_its_parts (And_part first others) e = refl
are_its_parts (All_parts term parts) e = absurd (cc)

row_or_not : (v : Value) (vs : List Value) → ends_in_row (v ∷ vs) ≡ ends_in_row (v ∷ [])
row_or_not (In_row x) vs = refl
row_or_not (In_parts ps) vs = refl

no_parts_there : (v : Value) (vs : List Value) → ends_in_row (v ∷ []) ≡ true → ends_in_parts (v ∷ vs) ≡ false
no_parts_there (In_row x) vs e = refl
no_parts_there (In_parts ps) vs e = absurd (cc)

module _ (ns : List Node) (old new : List ℕ) (k : ℕ) (x : Node) (b : Bool) (e : old ≡ new ++ k ∷ []) (a : AreValues ns old) (i : x ≡ get_or ns k x)
    (h : (g : ℕ → Rope) → b ≡ ends_in_row (value_of (rope_with g x) ∷ [])) where
  kept : AreValues ns new × (k < length ns)
  kept = number_taken ns new k (subst (AreValues ns) e a)

  kind : ends_in_row (value_of (rope_at ns k) ∷ []) ≡ b
  kind = ap (λ r. ends_in_row (value_of r ∷ [])) (node_is ns kept.0.0 k x i kept.1) ∙ sym (h (rope_at ns))

  split : values_in ns old ≡ value_of (rope_at ns k) ∷ values_in ns new
  split = ap (values_in ns) e ∙ value_first ns new k

  pub row_taken : b ≡ true → TakesRow ns old new (Some k)
  row_taken t = (kept.1, split ∙ ap (λ v. v ∷ values_in ns new) (is_its_row (rope_at ns k) (kind ∙ t)))

  pub row_not_taken : b ≡ false → ends_in_row (values_in ns old) ≡ false
  row_not_taken t = ap ends_in_row split ∙ row_or_not (value_of (rope_at ns k)) (values_in ns new) ∙ kind ∙ t

  pub parts_taken : b ≡ false → TakesParts ns old new (Some k)
  parts_taken t = (kept.1, split ∙ ap (λ v. v ∷ values_in ns new) (are_its_parts (rope_at ns k) (kind ∙ t)))

  pub parts_not_taken : b ≡ true → ends_in_parts (values_in ns old) ≡ false
  parts_not_taken t = ap ends_in_parts split ∙ no_parts_there (value_of (rope_at ns k)) (values_in ns new) (kind ∙ t)

-- the kind of one value

pub kind_is : (ns : List Node) → AreNodesFrom 0 ns → (k : ℕ) (x : Node) → x ≡ get_or ns k x → k < length ns → (b : Bool)
    → ((g : ℕ → Rope) → b ≡ ends_in_row (value_of (rope_with g x) ∷ [])) → b ≡ ends_in_row (value_of (rope_at ns k) ∷ [])
kind_is ns a k x i lt b h = h (rope_at ns) ∙ sym (ap (λ r. ends_in_row (value_of r ∷ [])) (node_is ns a k x i lt))

last_split : (ks : List ℕ) (k : ℕ) → Some k ≡ slice_get ks (length ks - 1) → (js : List ℕ) × (ks ≡ js ++ k ∷ [])
last_split [] k e = absurd (cc)
last_split (j ∷ []) k e =
    let z : length (j ∷ []) - 1 ≡ 0 = omega arith in
    ([], ap (λ i. i ∷ []) (sym (same_Some k j (e ∙ ap (slice_get (j ∷ [])) z))))
last_split (j ∷ i ∷ ks) k e =
    let z : length (j ∷ i ∷ ks) - 1 ≡ suc (length (i ∷ ks) - 1) = omega arith in
    let r = last_split (i ∷ ks) k (e ∙ ap (slice_get (j ∷ i ∷ ks)) z) in
    (j ∷ r.0, ap (λ qs. j ∷ qs) r.1)

pub last_kind : (ns : List Node) (ks : List ℕ) (k : ℕ) → Some k ≡ slice_get ks (length ks - 1)
    → ends_in_row (value_of (rope_at ns k) ∷ []) ≡ ends_in_row (values_in ns ks)
last_kind ns ks k e =
    let s = last_split ks k e in
    sym (ap ends_in_row (ap (values_in ns) s.1 ∙ value_first ns s.0 k) ∙ row_or_not (value_of (rope_at ns k)) (values_in ns s.0))

-- ---- what a node names

node_wider : (j m : ℕ) → j ≤ m → (n : Node) → IsNodeAt j n → IsNodeAt m n
node_wider j m le node.Empty a = tt
node_wider j m le (node.Link first row) a = let z = a.0 in (omega (arith, le, z), a.1)
node_wider j m le (node.Behind first way next) a = let z = a.0 in let y = a.1 in (omega (arith, le, z), omega (arith, le, y))
node_wider j m le (node.Between left middle right) a =
    let z = a.0 in
    let y = a.1.0 in
    let w = a.1.1 in
    (omega (arith, le, z), (omega (arith, le, y), omega (arith, le, w)))
node_wider j m le node.NoPart a = tt
node_wider j m le (node.Part first others) a = let z = a.0 in let y = a.1 in (omega (arith, le, z), omega (arith, le, y))
node_wider j m le (node.Cases term parts) a = omega (arith, le, a)

pub node_within : (ns : List Node) → AreNodesFrom 0 ns → (k : ℕ) (x y : Node) → x ≡ get_or ns k x → k < length ns → x ≡ y → IsNodeAt (length ns) y
node_within ns a k x y i lt e = subst (IsNodeAt (length ns)) e (node_wider (0 + k) (length ns) (omega (arith, lt)) x (node_at 0 ns a k x i lt))

pub node_as : (ns : List Node) → AreNodesFrom 0 ns → (k : ℕ) (x y : Node) → x ≡ get_or ns k x → k < length ns → x ≡ y → rope_at ns k ≡ rope_with (rope_at ns) y
node_as ns a k x y i lt e = node_is ns a k x i lt ∙ ap (rope_with (rope_at ns)) e
