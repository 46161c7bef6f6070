use Rattle.std.proofs.Common.{ℕ, ◌*◌, ◌-◌, ◌/◌, ◌%◌, ◌^◌, ◌+◌, ◌<◌, length, drop, List, refl, sym, ap, ◌∙◌, subst, arith}
use Rattle.std.proofs.lemmas.List.{get_or-drop}
use Rattle.byteorder.specs.Endian.{big_from}
use Rattle.ti_layout.proofs.ViewLemmas.{rest_of}
use Rattle.user_extension.specs.inside.Keys.{key_of}
use Rattle.user_extension.proofs.NameKeys.{AreBytes, key_of_front}
use Rattle.user_extension.proofs.keys.key_at.Goals as goal

pub returns-clause-key : goal.returns-clause-key
returns-clause-key c =
    let table = c.args.table.now in
    let at = c.args.offset in
    let raw = drop at table in
    let len : ℕ = length c.args.name.now in
    let unused : ℕ = 8 * (8 - len) in
    let bytes : AreBytes raw = λ k. subst (λ (b : ℕ). b < 256) (sym (get_or-drop at table k 0)) (c.type_inv.table (at + k)).fits in (
      ap (λ (n : ℕ). n / 2 ^ unused * 2 ^ unused % 2 ^ 64) (c.read_u64.ensures ∙ ap (λ (xs : List ℕ). big_from 0 8 xs) (rest_of at table))
          ∙ key_of_front len unused raw bytes (omega (arith, c.if-len-ge-KEY_BYTES.false)) refl
          ∙ ap (λ (xs : List ℕ). key_of xs) (sym c.requires.name),
      λ k. (c.type_inv.name k).fits,
    )
