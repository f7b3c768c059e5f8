-- Which revision made a node. Numbers of nodes rise with revisions, and a commit that changes anything makes its root before all other nodes.
--     root_of h r      the root of revision r
--     RootsRise h      the roots of later revisions have larger numbers, or the same where nothing changed; the first is node 0
--     IsMadeIn h n m      revision m made node n: its root is the largest that isn't above n, and no revision before has that root
use Rattle.std.specs.Prelude.{◌≡◌, ℕ, ◌-◌, ◌<◌, ◌≤◌, Bool, true, false, [], nat_lt, Option, Some, None}
use Rattle.svn_repo.specs.History.{History, look}

abbrev pub root_of : History → ℕ → Option ℕ
root_of h r = look h r []

abbrev pub is_below : Option ℕ → ℕ → Bool
is_below None n = false
is_below (Some root) n = nat_lt root n

-- the revision has a root, and that is before node n
abbrev pub is_root_below : History → ℕ → ℕ → Bool
is_root_below h n r = is_below (root_of h r) n

pub record RootsRise (h : History) : Type 0 where
  pub first : root_of h 0 ≡ Some 0
  pub rise : (r s m n : ℕ) → r ≤ s → root_of h r ≡ Some m → root_of h s ≡ Some n → m ≤ n

pub record IsMadeIn (h : History) (n m : ℕ) : Type 0 where
  pub root : ℕ
  pub is_root : root_of h m ≡ Some root
  pub at_most : root ≤ n
  pub largest : (r k : ℕ) → root_of h r ≡ Some k → k ≤ n → k ≤ root
  pub first : (r k : ℕ) → root_of h r ≡ Some k → r < m → k < root

-- as a search finds it: this root isn't below the node, and the one before is
pub record IsFirstFrom (h : History) (n m : ℕ) : Type 0 where
  pub below : 0 < m → is_root_below h n (m - 1) ≡ true
  pub from : is_root_below h n m ≡ false
