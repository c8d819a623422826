-- The keys of the terms of a table.
use Rattle.std.specs.Prelude.{◌≡◌, ℕ, ◌<◌, List, [], ◌∷◌, ◌++◌, length, map, Some}
use Rattle.std.specs.List.{slice_get}
use Rattle.std.proofs.Common.{ap, sym, ◌∙◌, arith, length-append}
use Rattle.std.proofs.lemmas.List.{length-map, map-append}
use Rattle.circ_hash_chains.proofs.Lists.{get_map}
use Rattle.circ_proof.specs.Table.{term_limit}
use Rattle.circ_table.specs.declared.lines.Lines.{Lines}
use Rattle.circ_table.specs.Lines.{PlainRoot, roots, HasMore}
use Rattle.circ_table.specs.Keys.{root_key, AreRows}
use Rattle.circ_table.proofs.Placing.{length_roots}

module _ (l : Lines) (keys : List ℕ) (h : AreRows l keys) where
  -- a root stands beside its key
  pub key_rooted : (key : ℕ) (p : PlainRoot) → key ≡ root_key p → (n : ℕ) → slice_get (roots l) n ≡ Some p → slice_get keys n ≡ Some key
  key_rooted key p is n e = ap (λ ks. slice_get ks n) h.keyed ∙ get_map root_key (roots l) n p e ∙ ap Some (sym is)

  pub keys_long : length keys ≡ length l.rows.items
  keys_long = ap length h.keyed ∙ length-map (roots l) root_key ∙ length_roots l.args.items 0 l.rows.items

  -- a term and its key go last
  pub rows_more : (new : Lines) (more : List ℕ) (p : PlainRoot) (key : ℕ) → HasMore l new p → length l.rows.items < term_limit → key ≡ root_key p → more ≡ keys ++ key ∷ [] → AreRows new more
  rows_more new more p key own room is with_key = record {
    lines = own.lines;
    few =
        omega (
          arith,
          room,
          length_roots l.args.items 0 l.rows.items,
          length_roots new.args.items 0 new.rows.items,
          ap length own.with_root,
          length-append (roots l) (p ∷ []),
        );
    keyed =
        with_key ∙ ap (λ ks. ks ++ key ∷ []) h.keyed ∙ ap (λ k. map root_key (roots l) ++ k ∷ []) is ∙ sym (map-append root_key (roots l) (p ∷ []))
        ∙ sym (ap (map root_key) own.with_root);
  }

  -- nothing has changed
  pub rows_same : (new : Lines) (more : List ℕ) → new.rows.items ≡ l.rows.items → new.args.items ≡ l.args.items → more ≡ keys → AreRows new more
  rows_same new more same_rows same_args same_keys = record {
    lines = rw (same_rows, same_args) h.lines;
    few = rw same_rows h.few;
    keyed = same_keys ∙ rw (same_rows, same_args) h.keyed;
  }
