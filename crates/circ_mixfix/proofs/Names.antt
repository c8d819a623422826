-- Two spellings of one token list that differ in their variables' names alone are the same, so that numbering the variables keeps different spellings different.
use Rattle.std.proofs.Common.{◌≡◌, ◌≢◌, ◌+◌, ◌++◌, ◌==◌, ℕ, List, [], ◌∷◌, length, Some, None, Option, option_map, Bool, true, false, codes, cond, sym, ◌∙◌, ap, subst, refl, arith, append_assoc, append-nil, nat_eq}
use Rattle.std.specs.List.{slice_get}
use Rattle.std.specs.Cmp.Lexicographic.{pointwise, bytes_decides}
use Rattle.std.proofs.lemmas.List.{length-append}
use Rattle.circ_theory.specs.Signature.{Signature, Operator}
use Rattle.circ_theory.specs.Theory.{Declared}
use Rattle.circ_mixfix.specs.Named.{Named, NamedList, Variable, Applied, no_terms, terms, numbered, all_numbered}
use Rattle.circ_mixfix.specs.Symbols.{Symbol, Word, Hole, every, symbols_of}
use Rattle.circ_mixfix.specs.Spells.{HasNoColon, IsVariable, a_declared_one, a_written_one, the_hole, Spells, SpellsSymbols, in_parentheses, a_variable, an_operator, no_symbol, a_word, a_hole}

-- the bytes before the first ':', if there is one
abbrev pub before_colon : List ℕ → Option (List ℕ)
before_colon [] = None
before_colon (b ∷ w) = cond (b == 58) (Some []) (option_map (λ n. b ∷ n) (before_colon w))

-- the name in a token: none in a parenthesis
abbrev name_before : Option (List ℕ) → List ℕ → List (List ℕ)
name_before None w = cond (pointwise nat_eq w (codes "(")) [] (cond (pointwise nat_eq w (codes ")")) [] (w ∷ []))
name_before (Some n) w = cond (pointwise nat_eq n (codes "*")) ([] ∷ []) (n ∷ [])

abbrev mark : List ℕ → List (List ℕ)
mark w = name_before (before_colon w) w

abbrev symbols_in : Option Operator → List Symbol
symbols_in None = []
symbols_in (Some o) = symbols_of o

-- an operator's symbols
abbrev forms : Signature → ℕ → List Symbol
forms sig f = symbols_in (slice_get sig.ops f)

pub no_colon : (w : List ℕ) → HasNoColon w → before_colon w ≡ None
no_colon [] h = refl
no_colon (b ∷ w) h = go (λ k. no_colon w k) (b == 58) refl h
  where
    go : (HasNoColon w → before_colon w ≡ None) → (r : Bool) → (b == 58) ≡ r → HasNoColon (b ∷ w) → before_colon (b ∷ w) ≡ None
    go ih true e k = absurd (let z = rw e at k in cc)
    go ih false e k = rw e (ap (option_map (λ n. b ∷ n)) (ih (rw e at k)))

pub colon_at : (n w : List ℕ) → HasNoColon n → before_colon (n ++ 58 ∷ w) ≡ Some n
colon_at [] w h = refl
colon_at (b ∷ n) w h = go (λ k. colon_at n w k) (b == 58) refl h
  where
    go : (HasNoColon n → before_colon (n ++ 58 ∷ w) ≡ Some n) → (r : Bool) → (b == 58) ≡ r → HasNoColon (b ∷ n) → before_colon ((b ∷ n) ++ 58 ∷ w) ≡ Some (b ∷ n)
    go ih true e k = absurd (let z = rw e at k in cc)
    go ih false e k = rw e (ap (option_map (λ x. b ∷ x)) (ih (rw e at k)))

-- lists that differ are told apart
pub apart : (xs ys : List ℕ) → xs ≢ ys → pointwise nat_eq xs ys ≡ false
apart xs ys h = go (pointwise nat_eq xs ys) refl
  where
    go : (r : Bool) → pointwise nat_eq xs ys ≡ r → pointwise nat_eq xs ys ≡ false
    go true e = absurd (h ((bytes_decides xs ys).0 e))
    go false e = e

marked : (sig : Signature) (vars : List Declared) (hole : Bool) (w name : List ℕ) (s : ℕ) → IsVariable sig vars hole w name s → mark w ≡ name ∷ []
marked sig vars hole w name s (a_declared_one c h a b) = rw (no_colon w h, apart w (codes "(") a, apart w (codes ")") b) refl
marked sig vars hole w name s (a_written_one sort l e h k m n star) = ap mark e ∙ rw (colon_at name sort h, apart name (codes "*") star) refl
marked sig vars hole w name s (the_hole sort t l e k m) = ap mark e

abbrev bare : List (List ℕ) → List (List ℕ)
bare [] = []
bare (w ∷ ws) = mark w ++ bare ws

bare-append : (xs ys : List (List ℕ)) → bare (xs ++ ys) ≡ bare xs ++ bare ys
bare-append [] ys = refl
bare-append (x ∷ xs) ys = ap (λ z. mark x ++ z) (bare-append xs ys) ∙ sym (append_assoc (mark x) (bare xs) (bare ys))

-- the names in the tokens of symbols, with those of the arguments in the holes
abbrev weave : List Symbol → List (List (List ℕ)) → List (List ℕ)
weave [] xs = []
weave (Word w ∷ ps) xs = mark w ++ weave ps xs
weave (Hole s b ∷ ps) [] = []
weave (Hole s b ∷ ps) (x ∷ xs) = x ++ weave ps xs

abbrev mutual
  text : Signature → Named → List (List ℕ)
  text sig (Variable n s) = n ∷ []
  text sig (Applied f s ts) = weave (forms sig f) (texts sig ts)

  texts : Signature → NamedList → List (List (List ℕ))
  texts sig no_terms = []
  texts sig (terms t ts) = text sig t ∷ texts sig ts

mutual
  spells_text : (sig : Signature) (vars : List Declared) (hole : Bool) (b s : ℕ) (us : List (List ℕ)) (t : Named) → Spells sig vars hole b s us t → bare us ≡ text sig t
  spells_text sig vars hole b s us t (in_parentheses inner lo k e) =
      ap bare e ∙ bare-append inner (codes ")" ∷ []) ∙ append-nil (bare inner) ∙ spells_text sig vars hole every s inner t k
  spells_text sig vars hole b s us t (a_variable w n lo v e z) = ap bare e ∙ append-nil (mark w) ∙ marked sig vars hole w n s v ∙ ap (text sig) (sym z)
  spells_text sig vars hole b s us t (an_operator f o args l p q row z) =
      row_text sig vars hole (symbols_of o) us args row ∙ ap (λ ps. weave ps (texts sig args)) (ap symbols_in (sym l)) ∙ ap (text sig) (sym z)

  row_text : (sig : Signature) (vars : List Declared) (hole : Bool) (ps : List Symbol) (us : List (List ℕ)) (args : NamedList) → SpellsSymbols sig vars hole ps us args → bare us ≡ weave ps (texts sig args)
  row_text sig vars hole [] us no_terms (no_symbol e) = ap bare e
  row_text sig vars hole (Word w ∷ ps) us args (a_word rest r e) = ap bare e ∙ ap (λ z. mark w ++ z) (row_text sig vars hole ps rest args r)
  row_text sig vars hole (Hole s b ∷ ps) us (terms t args) (a_hole first rest k r e) =
      ap bare e ∙ bare-append first rest ∙ ap (λ z. z ++ bare rest) (spells_text sig vars hole b s first t k)
      ∙ ap (λ z. text sig t ++ z) (row_text sig vars hole ps rest args r)

-- the holes are as many as the arguments, in all of the term
abbrev Fits : List Symbol → NamedList → Type 0
Fits [] no_terms = Unit {0}
Fits [] (terms t ts) = ⊥
Fits (Word w ∷ ps) ts = Fits ps ts
Fits (Hole s b ∷ ps) no_terms = ⊥
Fits (Hole s b ∷ ps) (terms t ts) = Fits ps ts

abbrev mutual
  IsFit : Signature → Named → Type 0
  IsFit sig (Variable n s) = Unit {0}
  IsFit sig (Applied f s ts) = Fits (forms sig f) ts × AreFit sig ts

  AreFit : Signature → NamedList → Type 0
  AreFit sig no_terms = Unit {0}
  AreFit sig (terms t ts) = IsFit sig t × AreFit sig ts

mutual
  spells_fit : (sig : Signature) (vars : List Declared) (hole : Bool) (b s : ℕ) (us : List (List ℕ)) (t : Named) → Spells sig vars hole b s us t → IsFit sig t
  spells_fit sig vars hole b s us t (in_parentheses inner lo k e) = spells_fit sig vars hole every s inner t k
  spells_fit sig vars hole b s us t (a_variable w n lo v e z) = let P : Named → Type 0 = IsFit sig in subst P (sym z) tt
  spells_fit sig vars hole b s us t (an_operator f o args l p q row z) =
      let P : Named → Type 0 = IsFit sig in
      let Q : List Symbol → Type 0 = λ ps. Fits ps args in
      let k = row_fit sig vars hole (symbols_of o) us args row in
      subst P (sym z) (subst Q (ap symbols_in (sym l)) k.0, k.1)

  row_fit : (sig : Signature) (vars : List Declared) (hole : Bool) (ps : List Symbol) (us : List (List ℕ)) (args : NamedList) → SpellsSymbols sig vars hole ps us args → Fits ps args × AreFit sig args
  row_fit sig vars hole [] us no_terms (no_symbol e) = (tt, tt)
  row_fit sig vars hole (Word w ∷ ps) us args (a_word rest r e) = row_fit sig vars hole ps rest args r
  row_fit sig vars hole (Hole s b ∷ ps) us (terms t args) (a_hole first rest k r e) =
      let j = row_fit sig vars hole ps rest args r in (j.0, (spells_fit sig vars hole b s first t k, j.1))

-- the same but for the numbers of variables
abbrev mutual
  Same : Named → Named → Type 0
  Same (Variable n s) (Variable m r) = s ≡ r
  Same (Variable n s) (Applied h r us) = ⊥
  Same (Applied f s ts) (Variable m r) = ⊥
  Same (Applied f s ts) (Applied h r us) = (f ≡ h) × (s ≡ r) × Sames ts us

  Sames : NamedList → NamedList → Type 0
  Sames no_terms no_terms = Unit {0}
  Sames no_terms (terms u us) = ⊥
  Sames (terms t ts) no_terms = ⊥
  Sames (terms t ts) (terms u us) = Same t u × Sames ts us

abbrev Lengths : List (List (List ℕ)) → List (List (List ℕ)) → Type 0
Lengths [] [] = Unit {0}
Lengths [] (y ∷ ys) = ⊥
Lengths (x ∷ xs) [] = ⊥
Lengths (x ∷ xs) (y ∷ ys) = (length x ≡ length y) × Lengths xs ys

weave_length : (ps : List Symbol) (xs ys : List (List (List ℕ))) → Lengths xs ys → length (weave ps xs) ≡ length (weave ps ys)
weave_length [] xs ys h = refl
weave_length (Word w ∷ ps) xs ys h = length-append (mark w) (weave ps xs) ∙ ap (λ n. length (mark w) + n) (weave_length ps xs ys h) ∙ sym (length-append (mark w) (weave ps ys))
weave_length (Hole s b ∷ ps) [] [] h = refl
weave_length (Hole s b ∷ ps) [] (y ∷ ys) h = absurd h
weave_length (Hole s b ∷ ps) (x ∷ xs) [] h = absurd h
weave_length (Hole s b ∷ ps) (x ∷ xs) (y ∷ ys) h = length-append x (weave ps xs) ∙ ap (λ n. n + length (weave ps xs)) h.0 ∙ ap (λ n. length y + n) (weave_length ps xs ys h.1) ∙ sym (length-append y (weave ps ys))

mutual
  same_length : (sig : Signature) (t u : Named) → Same t u → length (text sig t) ≡ length (text sig u)
  same_length sig (Variable n s) (Variable m r) h = refl
  same_length sig (Variable n s) (Applied f r us) h = absurd h
  same_length sig (Applied f s ts) (Variable m r) h = absurd h
  same_length sig (Applied f s ts) (Applied g r us) h = weave_length (forms sig f) (texts sig ts) (texts sig us) (same_lengths sig ts us h.2) ∙ ap (λ x. length (weave (forms sig x) (texts sig us))) h.0

  same_lengths : (sig : Signature) (ts us : NamedList) → Sames ts us → Lengths (texts sig ts) (texts sig us)
  same_lengths sig no_terms no_terms h = tt
  same_lengths sig no_terms (terms u us) h = absurd h
  same_lengths sig (terms t ts) no_terms h = absurd h
  same_lengths sig (terms t ts) (terms u us) h = (same_length sig t u h.0, same_lengths sig ts us h.1)

split : (x y v w : List (List ℕ)) → length x ≡ length y → x ++ v ≡ y ++ w → (x ≡ y) × (v ≡ w)
split [] [] v w l e = (refl, e)
split [] (b ∷ y) v w l e = absurd (omega arith)
split (a ∷ x) [] v w l e = absurd (omega arith)
split (a ∷ x) (b ∷ y) v w l e =
    let h : a ≡ b = cc in let t : x ++ v ≡ y ++ w = cc in let k = split x y v w (omega arith) t in
    (ap (λ z. z ∷ x) h ∙ ap (λ z. b ∷ z) k.0, k.1)

-- the texts of the arguments, from the text of the whole
texts_same : (sig : Signature) (ps : List Symbol) (ts us : NamedList) → Fits ps ts → Fits ps us → Lengths (texts sig ts) (texts sig us)
    → weave ps (texts sig ts) ≡ weave ps (texts sig us) → texts sig ts ≡ texts sig us
texts_same sig [] no_terms no_terms a b l e = refl
texts_same sig [] no_terms (terms u us) a b l e = absurd b
texts_same sig [] (terms t ts) us a b l e = absurd a
texts_same sig (Word w ∷ ps) ts us a b l e = texts_same sig ps ts us a b l (split (mark w) (mark w) (weave ps (texts sig ts)) (weave ps (texts sig us)) refl e).1
texts_same sig (Hole s b2 ∷ ps) no_terms us a b l e = absurd a
texts_same sig (Hole s b2 ∷ ps) (terms t ts) no_terms a b l e = absurd b
texts_same sig (Hole s b2 ∷ ps) (terms t ts) (terms u us) a b l e =
    let k = split (text sig t) (text sig u) (weave ps (texts sig ts)) (weave ps (texts sig us)) l.0 e in
    let r = texts_same sig ps ts us a b l.1 k.1 in
    ap (λ z. z ∷ texts sig ts) k.0 ∙ ap (λ z. text sig u ∷ z) r

mutual
  one_name : (sig : Signature) (t u : Named) → Same t u → IsFit sig t → IsFit sig u → text sig t ≡ text sig u → t ≡ u
  one_name sig (Variable n s) (Variable m r) h a b e = let k : n ≡ m = cc in ap (λ z. Variable z s) k ∙ ap (Variable m) h
  one_name sig (Variable n s) (Applied f r us) h a b e = absurd h
  one_name sig (Applied f s ts) (Variable m r) h a b e = absurd h
  one_name sig (Applied f s ts) (Applied g r us) h a b e =
      let P : ℕ → Type 0 = λ x. Fits (forms sig x) us in
      let fu : Fits (forms sig f) us = subst P (sym h.0) b.0 in
      let e2 : weave (forms sig f) (texts sig ts) ≡ weave (forms sig f) (texts sig us) = e ∙ ap (λ x. weave (forms sig x) (texts sig us)) (sym h.0) in
      let k = texts_same sig (forms sig f) ts us a.0 fu (same_lengths sig ts us h.2) e2 in
      let q = one_names sig ts us h.2 a.1 b.1 k in
      ap (Applied f s) q ∙ ap (λ x. Applied f x us) h.1 ∙ ap (λ x. Applied x r us) h.0

  one_names : (sig : Signature) (ts us : NamedList) → Sames ts us → AreFit sig ts → AreFit sig us → texts sig ts ≡ texts sig us → ts ≡ us
  one_names sig no_terms no_terms h a b e = refl
  one_names sig no_terms (terms u us) h a b e = absurd h
  one_names sig (terms t ts) no_terms h a b e = absurd h
  one_names sig (terms t ts) (terms u us) h a b e =
      let x : text sig t ≡ text sig u = cc in
      let y : texts sig ts ≡ texts sig us = cc in
      ap (λ z. terms z ts) (one_name sig t u h.0 a.0 b.0 x) ∙ ap (terms u) (one_names sig ts us h.1 a.1 b.1 y)

mutual
  numbered_same : (ρ σ : List ℕ → ℕ → ℕ) (t u : Named) → numbered ρ t ≡ numbered σ u → Same t u
  numbered_same ρ σ (Variable n s) (Variable m r) e = cc
  numbered_same ρ σ (Variable n s) (Applied f r us) e = absurd (cc)
  numbered_same ρ σ (Applied f s ts) (Variable m r) e = absurd (cc)
  numbered_same ρ σ (Applied f s ts) (Applied g r us) e = let a : f ≡ g = cc in let b : s ≡ r = cc in let k : all_numbered ρ ts ≡ all_numbered σ us = cc in (a, b, all_numbered_same ρ σ ts us k)

  all_numbered_same : (ρ σ : List ℕ → ℕ → ℕ) (ts us : NamedList) → all_numbered ρ ts ≡ all_numbered σ us → Sames ts us
  all_numbered_same ρ σ no_terms no_terms e = tt
  all_numbered_same ρ σ no_terms (terms u us) e = absurd (cc)
  all_numbered_same ρ σ (terms t ts) no_terms e = absurd (cc)
  all_numbered_same ρ σ (terms t ts) (terms u us) e = let a : numbered ρ t ≡ numbered σ u = cc in let b : all_numbered ρ ts ≡ all_numbered σ us = cc in (numbered_same ρ σ t u a, all_numbered_same ρ σ ts us b)

-- spellings of one token list that are equal once their variables are numbered were equal before
pub spellings_apart : (sig : Signature) (vars : List Declared) (hole : Bool) (ts : List (List ℕ)) (b s b2 s2 : ℕ) (t u : Named) (ρ σ : List ℕ → ℕ → ℕ)
    → Spells sig vars hole b s ts t → Spells sig vars hole b2 s2 ts u → numbered ρ t ≡ numbered σ u → t ≡ u
spellings_apart sig vars hole ts b s b2 s2 t u ρ σ k l e =
    one_name sig t u (numbered_same ρ σ t u e) (spells_fit sig vars hole b s ts t k) (spells_fit sig vars hole b2 s2 ts u l)
    (sym (spells_text sig vars hole b s ts t k) ∙ spells_text sig vars hole b2 s2 ts u l)
