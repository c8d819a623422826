-- Numbers in chains: each chain leads from its newest number to its oldest.
use Rattle.std.specs.Prelude.{◌≡◌, ◌⊎◌, ℕ, ◌-◌, ◌*◌, ◌/◌, ◌%◌, ◌^◌, ◌≤◌, ◌<◌, List, length, map, Some}
use Rattle.std.specs.List.{slice_get}
use Rattle.circ_hash_chains.specs.declared.hash_chains.Link.{Link}
use Rattle.circ_hash_chains.specs.declared.hash_chains.Chains.{Chains}
use Rattle.circ_hash_chains.specs.declared.hash_chains.TheConstants.{CHAIN_END, SPREAD}

abbrev pub keys_of : List Link → List ℕ
keys_of links = map (λ l. l.key) links

-- the chain of a key: as large a part of all chains as the key, spread over the numbers below 2 ^ 32, is of those
unfoldable pub chain_of : (key width : ℕ) → ℕ
chain_of key width = key * SPREAD % 2 ^ 32 * width / 2 ^ 32

-- n is a number of the chain
abbrev pub StandsIn : (keys : List ℕ) (width chain n : ℕ) → Type 0
StandsIn keys width chain n = (k : ℕ) × (slice_get keys n ≡ Some k) × (chain_of k width ≡ chain)

-- the link leads to a number of the chain below `count`, or the chain ends there
abbrev pub Leads : (keys : List ℕ) (width chain count link : ℕ) → Type 0
Leads keys width chain count link = (link ≡ CHAIN_END) ⊎ ((CHAIN_END < link) × (link ≤ count) × StandsIn keys width chain (link - 1))

-- of the first `count` numbers, the link leads to the newest in the chain
pub record IsNewest (keys : List ℕ) (width chain count link : ℕ) : Type 0 where
  pub above : (m : ℕ) → m < count → StandsIn keys width chain m → m < link
  pub leads : Leads keys width chain count link

-- The chains lead through the first `count` numbers.
pub record IsLinked (keys : List ℕ) (links : List Link) (heads : List ℕ) (count : ℕ) : Type 0 where
  pub newest : (chain link : ℕ) → slice_get heads chain ≡ Some link → IsNewest keys (length heads) chain count link
  pub older : (m : ℕ) (link : Link) → m < count → slice_get links m ≡ Some link → IsNewest keys (length heads) (chain_of link.key (length heads)) m link.next

-- what chains keep
pub record AreChains (c : Chains) : Type 0 where
  pub few : length c.links.items < 2 ^ 32
  pub wide : length c.links.items ≤ length c.heads.items
  pub linked : IsLinked (keys_of c.links.items) c.links.items c.heads.items (length c.links.items)
