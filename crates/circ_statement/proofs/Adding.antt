-- Attributes are read from the left, in one way.
use Rattle.std.proofs.Common.{◌≡◌, ◌≢◌, ◌≤◌, ℕ, List, [], ◌∷◌, ◌++◌, Bool, true, false, ◌&&◌, codes, Option, Some, None, is_none, nat_le, if◌then◌else◌, refl, sym, ap, ◌∙◌, subst, arith}
use Rattle.std.proofs.lemmas.Grind.{common_steps}
use Rattle.std.specs.Option.{option_map, option_and_then}
use Rattle.std.proofs.lemmas.Option.{same_Some}
use Rattle.circ_statement.specs.declared.attributes.Attribute.{Attribute}
use Rattle.circ_statement.specs.declared.attributes.Attribute.TheVariants.{Prec, ToLeft, ToRight, Assoc, Comm, Idem}
use Rattle.circ_statement.specs.declared.attributes.Attributes.{Attributes}
use Rattle.circ_statement.specs.Words.{Word, is_word}
use Rattle.circ_statement.specs.Attributes.{words_of, all_words_of, with_attribute, with_attributes, AddsAttributes}
use Rattle.circ_statement.specs.Reading.{flag_of, number_of, prec_in, attribute_in}
use Rattle.circ_statement.proofs.WordLists.{word_is}
use Rattle.circ_statement.proofs.Decimals.{number_again, number_gives}

small : (p : Bool) (n : ℕ) (a b : Attributes) → (if p && nat_le n 127 then Some a else None) ≡ Some b → n ≤ 127
small false n a b e = absurd (cc)
small true n a b e = go (nat_le n 127) refl e
  where
    go : (t : Bool) → nat_le n 127 ≡ t → (if t then Some a else None) ≡ Some b → n ≤ 127
    go true l e = grind (arith, common_steps)
    go false l e = absurd (cc)

-- an attribute that can be given is read
pub attribute_again : (a b : Attributes) (t : Attribute) (rest : List Word) → with_attribute a t ≡ Some b → attribute_in (words_of t ++ rest) ≡ Some (t, rest)
attribute_again a b (Prec n) rest e = ap (λ o. option_map (λ m. (Prec m, rest)) o) (number_again n (small (is_none a.prec) n (record a { prec = Some n }) b e))
attribute_again a b ToLeft rest e = refl
attribute_again a b ToRight rest e = refl
attribute_again a b Assoc rest e = refl
attribute_again a b Comm rest e = refl
attribute_again a b Idem rest e = refl

flag_gives : (w : Word) (t : Attribute) → flag_of w ≡ Some t → w ∷ [] ≡ words_of t
flag_gives w t e = go (is_word w (codes "left")) (is_word w (codes "right")) (is_word w (codes "assoc")) (is_word w (codes "comm")) (is_word w (codes "idem")) refl refl refl refl refl e
  where
    one : (v : Word) (u : Attribute) → is_word w v ≡ true → v ∷ [] ≡ words_of u → Some u ≡ Some t → w ∷ [] ≡ words_of t
    one v u h e f = ap (λ x. x ∷ []) (word_is w v h) ∙ e ∙ ap words_of (same_Some u t f)

    go : (l r a c i : Bool) → is_word w (codes "left") ≡ l → is_word w (codes "right") ≡ r → is_word w (codes "assoc") ≡ a → is_word w (codes "comm") ≡ c → is_word w (codes "idem") ≡ i
        → (if l then Some ToLeft else if r then Some ToRight else if a then Some Assoc else if c then Some Comm else if i then Some Idem else None) ≡ Some t → w ∷ [] ≡ words_of t
    go true r a c i h j k m n e = one (codes "left") ToLeft h refl e
    go false true a c i h j k m n e = one (codes "right") ToRight j refl e
    go false false true c i h j k m n e = one (codes "assoc") Assoc k refl e
    go false false false true i h j k m n e = one (codes "comm") Comm m refl e
    go false false false false true h j k m n e = one (codes "idem") Idem n refl e
    go false false false false false h j k m n e = absurd (cc)

prec_gives : (ws : List Word) (t : Attribute) (rest : List Word) → prec_in ws ≡ Some (t, rest) → codes "prec" ∷ ws ≡ words_of t ++ rest
prec_gives [] t rest e = absurd (cc)
prec_gives (w ∷ ws) t rest e = go (number_of w) refl e
  where
    go : (o : Option ℕ) → number_of w ≡ o → option_map {U = Attribute × List Word} (λ n. (Prec n, ws)) o ≡ Some (t, rest) → codes "prec" ∷ (w ∷ ws) ≡ words_of t ++ rest
    go None h e = absurd (cc)
    go (Some n) h e =
        let same : ◌≡◌ {A = Attribute × List Word} (Prec n, ws) (t, rest) = same_Some (Prec n, ws) (t, rest) e in
        ap (λ v. codes "prec" ∷ (v ∷ ws)) (number_gives w n h) ∙ ap (λ p. words_of p.0 ++ p.1) same

pub attribute_gives : (ws : List Word) (t : Attribute) (rest : List Word) → attribute_in ws ≡ Some (t, rest) → ws ≡ words_of t ++ rest
attribute_gives [] t rest e = absurd (cc)
attribute_gives (w ∷ ws) t rest e = go (is_word w (codes "prec")) (word_is w (codes "prec")) (flag_of w) refl e
  where
    go : (b : Bool) → (b ≡ true → w ≡ codes "prec") → (o : Option Attribute) → flag_of w ≡ o
        → (if b then prec_in ws else option_map {U = Attribute × List Word} (λ u. (u, ws)) o) ≡ Some (t, rest) → w ∷ ws ≡ words_of t ++ rest
    go true is o h e = ap (λ v. v ∷ ws) (is refl) ∙ prec_gives ws t rest e
    go false is None h e = absurd (cc)
    go false is (Some u) h e =
        let same : ◌≡◌ {A = Attribute × List Word} (u, ws) (t, rest) = same_Some (u, ws) (t, rest) e in
        ap (λ xs. xs ++ ws) (flag_gives w u h) ∙ ap (λ p. words_of p.0 ++ p.1) same

-- the first attribute of a list that can be given
record IsNext (a : Attributes) (t : Attribute) (ts : List Attribute) (c : Attributes) : Type 0 where
  b : Attributes
  first : with_attribute a t ≡ Some b
  others : with_attributes b ts ≡ Some c

next_of : (a : Attributes) (t : Attribute) (ts : List Attribute) (c : Attributes) → with_attributes a (t ∷ ts) ≡ Some c → IsNext a t ts c
next_of a t ts c e = go (with_attribute a t) refl e
  where
    go : (o : Option Attributes) → with_attribute a t ≡ o → option_and_then (λ b. with_attributes b ts) o ≡ Some c → IsNext a t ts c
    go None h e = absurd (cc)
    go (Some b) h e = record { b = b; first = h; others = e }

-- attributes that are added to others begin with what is read
record Begins (a : Attributes) (ws : List Word) (c : Attributes) : Type 0 where
  t : Attribute
  rest : List Word
  b : Attributes
  read : attribute_in ws ≡ Some (t, rest)
  first : with_attribute a t ≡ Some b
  others : AddsAttributes b rest c

begins : (a : Attributes) (ws : List Word) (c : Attributes) → ws ≢ [] → AddsAttributes a ws c → Begins a ws c
begins a ws c some h = go h.attributes h.words h.added
  where
    go : (ts : List Attribute) → ws ≡ all_words_of ts → with_attributes a ts ≡ Some c → Begins a ws c
    go [] e f = absurd (some e)
    go (t ∷ ts) e f =
        let n = next_of a t ts c f in
        record { t = t; rest = all_words_of ts; b = n.b; read = ap attribute_in e ∙ attribute_again a n.b t (all_words_of ts) n.first; first = n.first; others = record { attributes = ts; words = refl; added = n.others } }

pub unread : (a : Attributes) (ws : List Word) → ws ≢ [] → attribute_in ws ≡ None → (c : Attributes) → AddsAttributes a ws c → ⊥
unread a ws some e c h = let g = (begins a ws c some h).read in cc

module _ (a : Attributes) (ws : List Word) (t : Attribute) (rest : List Word) (some : ws ≢ []) (read : attribute_in ws ≡ Some (t, rest)) where
  read_as : (c : Attributes) (g : Begins a ws c) → (g.t ≡ t) × (g.rest ≡ rest)
  read_as c g =
      let same : ◌≡◌ {A = Attribute × List Word} (g.t, g.rest) (t, rest) = same_Some (g.t, g.rest) (t, rest) (sym g.read ∙ read) in
      (ap (λ p. p.0) same, ap (λ p. p.1) same)

  pub refused : with_attribute a t ≡ None → (c : Attributes) → AddsAttributes a ws c → ⊥
  refused e c h =
      let g = begins a ws c some h in
      let no : None ≡ Some g.b = sym e ∙ ap (with_attribute a) (sym (read_as c g).0) ∙ g.first in
      absurd (cc)

  module _ (b : Attributes) (with : with_attribute a t ≡ Some b) where
    pub more_added : (c : Attributes) → AddsAttributes b rest c → AddsAttributes a ws c
    more_added c h = record {
      attributes = t ∷ h.attributes;
      words = attribute_gives ws t rest read ∙ ap (λ xs. words_of t ++ xs) h.words;
      added = ap (option_and_then (λ x. with_attributes x h.attributes)) with ∙ h.added;
    }

    pub less_added : (c : Attributes) → AddsAttributes a ws c → AddsAttributes b rest c
    less_added c h =
        let g = begins a ws c some h in
        let same = read_as c g in
        let is : g.b ≡ b = same_Some g.b b (sym g.first ∙ ap (with_attribute a) same.0 ∙ with) in
        subst (λ x. AddsAttributes x rest c) is (subst (λ xs. AddsAttributes g.b xs c) same.1 g.others)

pub added_none : (a : Attributes) (ws : List Word) → ws ≡ [] → AddsAttributes a ws a
added_none a ws e = record { attributes = []; words = e; added = refl }

nothing_added : (a c : Attributes) → AddsAttributes a [] c → a ≡ c
nothing_added a c h = go h.attributes h.words h.added
  where
    go : (ts : List Attribute) → [] ≡ all_words_of ts → with_attributes a ts ≡ Some c → a ≡ c
    go [] e f = same_Some a c f
    go (t ∷ ts) e f =
        let n = next_of a t ts c f in
        let no : ◌≡◌ {A = Option (Attribute × List Word)} None (Some (t, all_words_of ts)) = ap attribute_in e ∙ attribute_again a n.b t (all_words_of ts) n.first in
        absurd (cc)

all_same : (ts : List Attribute) (a b c : Attributes) → with_attributes a ts ≡ Some b → AddsAttributes a (all_words_of ts) c → b ≡ c
all_same [] a b c e h = sym (same_Some a b e) ∙ nothing_added a c h
all_same (t ∷ ts) a b c e h =
    let n = next_of a t ts b e in
    let read = attribute_again a n.b t (all_words_of ts) n.first in
    let some : words_of t ++ all_words_of ts ≢ [] = λ none. let no : ◌≡◌ {A = Option (Attribute × List Word)} None (Some (t, all_words_of ts)) = sym (ap attribute_in none) ∙ read in absurd (cc) in
    all_same ts n.b b c n.others (less_added a (words_of t ++ all_words_of ts) t (all_words_of ts) some read n.b n.first c h)

-- words add the same attributes each time
pub adds_same : (a b c : Attributes) (ws : List Word) → AddsAttributes a ws b → AddsAttributes a ws c → b ≡ c
adds_same a b c ws h k = all_same h.attributes a b c h.added (subst (λ xs. AddsAttributes a xs c) h.words k)
