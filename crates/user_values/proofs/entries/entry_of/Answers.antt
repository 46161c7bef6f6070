use Rattle.std.proofs.Common.{◌≡◌, ◌∙◌, List, ap, refl, ℕ}
use Rattle.ti_layout.specs.Values.{Content}
use Rattle.user_values.specs.Expansion.{UserMention}
use Rattle.user_values.specs.Tables.{entry_seen}
use Rattle.user_values.specs.declared.entries.UserEntry.{UserEntry}
use Rattle.user_values.proofs.entries.entry_of.Goals as goal

same_entry : (a b : List ℕ) (x y : Content) → a ≡ b → x ≡ y → ◌≡◌ {A = UserMention} (a, x) (b, y)
same_entry a b x y e f = rw (e, f) refl

pub returns : goal.returns
returns c = ap (λ (e : UserEntry). entry_seen e) c.in_ok-entry.ensures.ok ∙ same_entry _ _ _ _ c.in_ok-name.ensures c.in_ok-value.ensures
