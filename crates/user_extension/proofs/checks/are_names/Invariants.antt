use Rattle.std.proofs.Common.{◌≡◌, ◌≢◌, ℕ, suc, ◌+◌, ◌<◌, ◌*◌, length}
use Rattle.std.specs.Prelude.{IfSome, IsTrue}
use Rattle.std.specs.Ordering.{nat_cmp, is_lt}
use Rattle.std.specs.Cmp.Lexicographic.{slice_cmp}
use Rattle.ti_layout.specs.Reading.{word_at}
use Rattle.user_items.specs.Names.{is_user_defined_name}
use Rattle.user_extension.specs.Reading.{name_in}
use Rattle.user_extension.specs.inside.Keys.{IsKey}
use Rattle.user_extension.proofs.checks.are_names.Given as goal

abbrev pub invariant-loop-place : goal.invariant-loop-place
invariant-loop-place l = record {
  before : (k : ℕ) → k < l.place → word_at (2 * k) l.names < l.ends;
  user_defined : (k : ℕ) → k < l.place → IsTrue (is_user_defined_name (name_in l.names l.table k));
  adjoin : (k : ℕ) → suc k < l.place → word_at (2 * suc k) l.names ≡ word_at (2 * k) l.names + length (name_in l.names l.table k) + 1;
  rise : (k : ℕ) → suc k < l.place → suc k ≢ l.second → suc k ≢ l.third
      → IsTrue (is_lt (slice_cmp nat_cmp (name_in l.names l.table k) (name_in l.names l.table (suc k))));
  ended : (k : ℕ) → suc k ≡ l.place → l.next ≡ word_at (2 * k) l.names + length (name_in l.names l.table k) + 1;
  last : (k : ℕ) → suc k ≡ l.place → l.previous ≡ name_in l.names l.table k;
  key : IfSome l.key_before (λ n. IsKey n l.previous);
}
