-- a row whose value is of the kind adds its name
use Rattle.std.proofs.Common.{◌∙◌, ◌<◌, ◌∷◌, [], ℕ, List, Bor, map, length, sym, arith}
use Rattle.std.proofs.lemmas.List.{map-append}
use Rattle.user_extension.specs.View.{read_rows}
use Rattle.user_listing.proofs.Rows.{names-there, names-not}
use Rattle.user_listing.proofs.names.names_of_kind.Goals as goal
use Rattle.user_listing.proofs.names.names_of_kind.Goals.{then-is_of_kind+in_ok-push, else-is_of_kind}

pub loop-place-preserved : goal.loop-place-preserved
loop-place-preserved c =
    let rows = read_rows c.args.extension.now in
    let before = map (λ (name : Bor (List ℕ)). name.now) c.loop-place.names.items in
    let within : c.loop-place.place < length rows = omega (arith, c.loop-place-test.true, c.len-place-end.ensures) in
    elim c.if-is_of_kind.branch [
      | then-is_of_kind+in_ok-push w ↦
          rw (w.names-is, w.in_ok-push.ensures.items, map-append (λ (name : Bor (List ℕ)). name.now) c.loop-place.names.items (w.name.result ∷ []))
          (names-there c.args.kind rows c.loop-place.place w.name.result.now _ before _ within w.name.ensures.name c.value.ensures.value
          (sym c.is_of_kind.ensures
          ∙ w.if-is_of_kind.true) c.loop-place.invariant)
      | else-is_of_kind w ↦
          rw w.names-is (names-not c.args.kind rows c.loop-place.place _ before _ within c.value.ensures.value
          (sym c.is_of_kind.ensures ∙ w.if-is_of_kind.false) c.loop-place.invariant)
    ]
