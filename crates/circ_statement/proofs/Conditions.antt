-- Words cut outside parentheses, and conditions.
use Rattle.std.proofs.Common.{◌≡◌, ◌≤◌, ℕ, ◌+◌, ◌==◌, ◌&&◌, zero, suc, List, [], ◌∷◌, ◌++◌, map, Bool, true, false, codes, if◌then◌else◌, Option, Some, None}
use Rattle.std.proofs.Common.{refl, sym, ap, ◌∙◌, subst, append_assoc, arith}
use Rattle.std.proofs.lemmas.Option.{same_Some}
use Rattle.std.specs.Option.{option_map, option_and_then}
use Rattle.std.specs.List.{AllByRecursion}
use Rattle.circ_lexer.specs.TokenList.{TokenList, tokens_in, IsWithin}
use Rattle.circ_lexer.specs.declared.tokens.Span.{Span}
use Rattle.circ_statement.specs.declared.statements.Sides.{Sides}
use Rattle.circ_statement.specs.Words.{Word, is_word}
use Rattle.circ_statement.specs.Outside.{closed, opened, longer, cut_from, parts_at}
use Rattle.circ_statement.specs.Said.{Said, SaidSides, sides_of, equation}
use Rattle.circ_statement.specs.Statement.{AreSides, AreEachSides, AreUnderConditions, IsConditional}
use Rattle.circ_statement.specs.Reading.{AreConditions, PushesCondition}
use Rattle.circ_statement.proofs.Equations.{unmarked_same, sides_same}

pub some_same : {X : Type 0} (x y : X) → Some x ≡ Some y → x ≡ y
some_same x y e = same_Some x y e

-- at most one parenthesis more is open
pub opened_few : (n m : ℕ) (w : Word) → opened n w ≡ Some m → m ≤ n + 1
opened_few n m w = go (is_word w (codes "(")) (is_word w (codes ")")) n
  where
    go : (a b : Bool) (n : ℕ) → (if a then Some (n + 1) else if b then closed n else Some n) ≡ Some m → m ≤ n + 1
    go true b n e = let same : n + 1 ≡ m = some_same (n + 1) m e in omega arith
    go false true zero e = absurd (cc)
    go false true (suc n) e = let same : n ≡ m = some_same n m e in omega arith
    go false false n e = let same : n ≡ m = some_same n m e in omega arith

-- what is cut of the words, with those before them
abbrev pub behind : List Word → Option (List (List Word)) → Option (List (List Word))
behind front o = option_map (longer front) o

longer_twice : (front : List Word) (w : Word) (ps : List (List Word)) → longer front (longer (w ∷ []) ps) ≡ longer (front ++ w ∷ []) ps
longer_twice front w [] = refl
longer_twice front w (p ∷ ps) = ap (λ q. q ∷ ps) (sym (append_assoc front (w ∷ []) p))

behind_twice : (front : List Word) (w : Word) (o : Option (List (List Word))) → behind front (behind (w ∷ []) o) ≡ behind (front ++ w ∷ []) o
behind_twice front w None = refl
behind_twice front w (Some ps) = ap Some (longer_twice front w ps)

pub behind_nothing : (o : Option (List (List Word))) → behind [] o ≡ o
behind_nothing None = refl
behind_nothing (Some []) = refl
behind_nothing (Some (p ∷ ps)) = refl

module _ (at : Word) (front : List Word) (w : Word) (ws : List Word) (n : ℕ) where
  -- a word that is passed
  pub passed : (m : ℕ) → (is_word w at && (n == 0)) ≡ false → opened n w ≡ Some m
      → behind front (cut_from at n (w ∷ ws)) ≡ behind (front ++ w ∷ []) (cut_from at m ws)
  passed m h e = rw (h, e) (behind_twice front w (cut_from at m ws))

  -- a parenthesis that was not open
  pub unopened : (is_word w at && (n == 0)) ≡ false → opened n w ≡ None → behind front (cut_from at n (w ∷ ws)) ≡ None
  unopened h e = rw (h, e) refl

  -- the words are cut here
  pub cut_here : (is_word w at && (n == 0)) ≡ true → behind front (cut_from at n (w ∷ ws)) ≡ option_map (λ ps. front ∷ ps) (parts_at at ws)
  cut_here h = rw h (go (cut_from at 0 ws))
    where
      nil : (f : List Word) → f ++ [] ≡ f
      nil [] = refl
      nil (x ∷ f) = ap (λ y. x ∷ y) (nil f)

      go : (o : Option (List (List Word))) → behind front (option_map (λ ps. [] ∷ ps) o) ≡ option_map (λ ps. front ∷ ps) o
      go None = refl
      go (Some ps) = ap (λ f. Some (f ∷ ps)) (nil front)

pub each_same : (wss : List (List Word)) (a b : List SaidSides) → AreEachSides wss a → AreEachSides wss b → a ≡ b
each_same [] [] [] h k = refl
each_same [] [] (t ∷ b) h k = absurd k
each_same [] (s ∷ a) b h k = absurd h
each_same (ws ∷ wss) [] b h k = absurd h
each_same (ws ∷ wss) (s ∷ a) [] h k = absurd k
each_same (ws ∷ wss) (s ∷ a) (t ∷ b) h k = λ i. sides_same ws s t h.0 k.0 i ∷ each_same wss a b h.1 k.1 i

pub conditions_same : (ws : List Word) (a b : List SaidSides) → AreConditions ws a → AreConditions ws b → a ≡ b
conditions_same ws a b h k =
    let parts : h.parts ≡ k.parts = some_same h.parts k.parts (sym h.cut ∙ k.cut) in
    each_same k.parts a b (subst (λ ps. AreEachSides ps a) parts h.each) k.each

-- sides under conditions, by where their `if` stands
pub if_at : (ws front rest : List Word) → parts_at (codes "if") ws ≡ Some (front ∷ (rest ∷ [])) → (s : SaidSides) (conds : List SaidSides)
    → AreUnderConditions ws s conds → AreSides front s × AreConditions rest conds
if_at ws front rest one s conds h =
    let both : h.front ∷ (h.rest ∷ []) ≡ front ∷ (rest ∷ []) = some_same _ _ (sym h.one_if ∙ one) in
    let first : h.front ≡ front = cc in
    let second : h.rest ≡ rest = cc in (
      subst (λ q. AreSides q s) first h.are_sides,
      record { parts = h.parts; cut = ap (parts_at (codes "/\\")) (sym second) ∙ h.cut; each = h.each },
    )

under_same : (ws : List Word) (s t : SaidSides) (cs ds : List SaidSides) → AreUnderConditions ws s cs → AreUnderConditions ws t ds → (s ≡ t) × (cs ≡ ds)
under_same ws s t cs ds h k =
    let at = if_at ws k.front k.rest k.one_if s cs h in
    (sides_same k.front s t at.0 k.are_sides, conditions_same k.rest cs ds at.1 (record { parts = k.parts; cut = k.cut; each = k.each }))

pub conditional_same : (ws : List Word) (a b : Said) → IsConditional ws a → IsConditional ws b → a ≡ b
conditional_same ws a b h k =
    let same = unmarked_same ws h.body k.body h.exec k.exec h.unmarked k.unmarked in
    let both = under_same k.body h.sides k.sides h.conds k.conds (subst (λ q. AreUnderConditions q h.sides h.conds) same.0 h.are) k.are in
    h.says ∙ (λ i. equation (both.0 i).left (both.0 i).right (both.1 i) (same.1 i)) ∙ sym k.says

-- words are cut into one part at least
some_parts : (at : Word) (n : ℕ) (ws : List Word) → cut_from at n ws ≡ Some [] → ⊥
some_parts at n [] e = absurd (cc)
some_parts at n (w ∷ ws) e = go (λ m q. some_parts at m ws q) (is_word w at && (n == 0)) e
  where
    first : (o : Option (List (List Word))) → option_map (λ ps. [] ∷ ps) o ≡ Some [] → ⊥
    first None e = absurd (cc)
    first (Some ps) e = absurd (cc)

    next : (o : Option ℕ) → ((m : ℕ) → cut_from at m ws ≡ Some [] → ⊥) → option_and_then (λ m. option_map (longer (w ∷ [])) (cut_from at m ws)) o ≡ Some [] → ⊥
    next None ih e = absurd (cc)
    next (Some m) ih e = last (cut_from at m ws) refl e
      where
        last : (o : Option (List (List Word))) → cut_from at m ws ≡ o → option_map (longer (w ∷ [])) o ≡ Some [] → ⊥
        last None q e = absurd (cc)
        last (Some []) q e = ih m q
        last (Some (p ∷ ps)) q e = absurd (cc)

    go : ((m : ℕ) → cut_from at m ws ≡ Some [] → ⊥) → (b : Bool)
        → (if b then option_map (λ ps. [] ∷ ps) (cut_from at 0 ws) else option_and_then (λ m. option_map (longer (w ∷ [])) (cut_from at m ws)) (opened n w)) ≡ Some [] → ⊥
    go ih true e = first (cut_from at 0 ws) e
    go ih false e = next (opened n w) ih e

-- cut twice, the words have more than two parts
pub cut_twice : (at : Word) (ws a b c : List Word) → parts_at at ws ≡ option_map (λ ps. a ∷ ps) (option_map (λ ps. b ∷ ps) (parts_at at c))
    → (front rest : List Word) → parts_at at ws ≡ Some (front ∷ (rest ∷ [])) → ⊥
cut_twice at ws a b c e front rest h = go (parts_at at c) refl (sym e ∙ h)
  where
    go : (o : Option (List (List Word))) → parts_at at c ≡ o → option_map (λ ps. a ∷ ps) (option_map (λ ps. b ∷ ps) o) ≡ Some (front ∷ (rest ∷ [])) → ⊥
    go None q k = absurd (cc)
    go (Some []) q k = some_parts at 0 c q
    go (Some (p ∷ ps)) q k = let z : a ∷ (b ∷ (p ∷ ps)) ≡ front ∷ (rest ∷ []) = some_same _ _ k in absurd (cc)

-- ---- conditions one after the other

-- the parts that were read, and what is left
pub record AreRead (ts : TokenList) (span rest : Span) (conds : List Sides) : Type 0 where
  pub done : List (List Word)
  pub within : IsWithin ts rest
  pub same : parts_at (codes "/\\") (tokens_in ts span) ≡ option_map (λ ps. done ++ ps) (parts_at (codes "/\\") (tokens_in ts rest))
  pub each : AreEachSides done (map (sides_of ts) conds)
  pub spans : AllByRecursion (λ s. IsWithin ts s.left × IsWithin ts s.right) conds

pub none_read : (ts : TokenList) (span : Span) → IsWithin ts span → AreRead ts span span []
none_read ts span h = record { done = []; within = h; same = go (parts_at (codes "/\\") (tokens_in ts span)); each = tt; spans = tt }
  where
    go : (o : Option (List (List Word))) → o ≡ option_map (λ ps. [] ++ ps) o
    go None = refl
    go (Some ps) = refl

each_push : (ts : TokenList) (done : List (List Word)) (conds : List Sides) (ws : List Word) (s : Sides) → AreEachSides done (map (sides_of ts) conds) → AreSides ws (sides_of ts s)
    → AreEachSides (done ++ ws ∷ []) (map (sides_of ts) (conds ++ s ∷ []))
each_push ts [] [] ws s h k = (k, tt)
each_push ts [] (c ∷ conds) ws s h k = absurd h
each_push ts (d ∷ done) [] ws s h k = absurd h
each_push ts (d ∷ done) (c ∷ conds) ws s h k = (h.0, each_push ts done conds ws s h.1 k)

spans_push : (P : Sides → Type 0) (conds : List Sides) (s : Sides) → AllByRecursion P conds → P s → AllByRecursion P (conds ++ s ∷ [])
spans_push P [] s h k = (k, tt)
spans_push P (c ∷ conds) s h k = (h.0, spans_push P conds s h.1 k)

module _ (ts : TokenList) (span rest : Span) (conds : List Sides) (r : AreRead ts span rest conds) where
  -- one condition more
  pub read_more : (before after : Span) (new : List Sides) → IsWithin ts after
      → parts_at (codes "/\\") (tokens_in ts rest) ≡ option_map (λ ps. tokens_in ts before ∷ ps) (parts_at (codes "/\\") (tokens_in ts after))
      → PushesCondition true ts before conds new → AreRead ts span after new
  read_more before after new h e p = record {
    done = r.done ++ tokens_in ts before ∷ [];
    within = h;
    same = r.same ∙ ap (option_map (λ ps. r.done ++ ps)) e ∙ go (parts_at (codes "/\\") (tokens_in ts after));
    each = subst (λ cs. AreEachSides (r.done ++ tokens_in ts before ∷ []) (map (sides_of ts) cs)) (sym p.1) (each_push ts r.done conds (tokens_in ts before) p.0 r.each p.2);
    spans = subst (AllByRecursion (λ s. IsWithin ts s.left × IsWithin ts s.right)) (sym p.1) (spans_push (λ s. IsWithin ts s.left × IsWithin ts s.right) conds p.0 r.spans (p.3, p.4));
  }
    where
      go : (o : Option (List (List Word))) → option_map (λ ps. r.done ++ ps) (option_map (λ ps. tokens_in ts before ∷ ps) o) ≡ option_map (λ ps. (r.done ++ tokens_in ts before ∷ []) ++ ps) o
      go None = refl
      go (Some ps) = ap Some (sym (append_assoc r.done (tokens_in ts before ∷ []) ps))

  -- the last one
  pub read_last : (new : List Sides) → parts_at (codes "/\\") (tokens_in ts rest) ≡ Some (tokens_in ts rest ∷ []) → PushesCondition true ts rest conds new
      → AreConditions (tokens_in ts span) (map (sides_of ts) new) × AllByRecursion (λ s. IsWithin ts s.left × IsWithin ts s.right) new
  read_last new e p = (
    record {
      parts = r.done ++ tokens_in ts rest ∷ [];
      cut = r.same ∙ ap (option_map (λ ps. r.done ++ ps)) e;
      each = subst (λ cs. AreEachSides (r.done ++ tokens_in ts rest ∷ []) (map (sides_of ts) cs)) (sym p.1) (each_push ts r.done conds (tokens_in ts rest) p.0 r.each p.2);
    },
    subst (AllByRecursion (λ s. IsWithin ts s.left × IsWithin ts s.right)) (sym p.1) (spans_push (λ s. IsWithin ts s.left × IsWithin ts s.right) conds p.0 r.spans (p.3, p.4)),
  )

  -- a part that is no condition
  pub no_part : (ws : List Word) (o : Option (List (List Word))) → parts_at (codes "/\\") (tokens_in ts rest) ≡ option_map (λ ps. ws ∷ ps) o
      → ((s : SaidSides) → AreSides ws s → ⊥) → (cs : List SaidSides) → AreConditions (tokens_in ts span) cs → ⊥
  no_part ws o e never cs h = go o (sym (r.same ∙ ap (option_map (λ ps. r.done ++ ps)) e) ∙ h.cut)
    where
      at_front : (done : List (List Word)) (ps : List (List Word)) (cs : List SaidSides) → AreEachSides (done ++ ws ∷ ps) cs → ⊥
      at_front [] ps [] k = k
      at_front [] ps (c ∷ cs) k = never c k.0
      at_front (d ∷ done) ps [] k = k
      at_front (d ∷ done) ps (c ∷ cs) k = at_front done ps cs k.1

      go : (o : Option (List (List Word))) → option_map (λ ps. r.done ++ ps) (option_map (λ ps. ws ∷ ps) o) ≡ Some h.parts → ⊥
      go None k = absurd (cc)
      go (Some ps) k = at_front r.done ps cs (subst (λ q. AreEachSides q cs) (sym (some_same _ _ k)) h.each)

  -- a parenthesis that was not open
  pub no_parts : parts_at (codes "/\\") (tokens_in ts rest) ≡ None → (cs : List SaidSides) → AreConditions (tokens_in ts span) cs → ⊥
  no_parts e cs h = let z : None ≡ Some h.parts = sym (r.same ∙ ap (option_map (λ ps. r.done ++ ps)) e) ∙ h.cut in absurd (cc)
