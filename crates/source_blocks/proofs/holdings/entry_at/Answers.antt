use Rattle.std.proofs.Common.{List, ℕ, ap, sym, ◌∙◌}
use Rattle.base_meaning.specs.Compiled.{compiled}
use Rattle.source_document.specs.Documents.{held}
use Rattle.source_blocks.specs.Causes.{cause_told}
use Rattle.source_blocks.specs.Holdings.{entry_faulty, entry_held}
use Rattle.source_blocks.specs.declared.holdings.Holding.{Holding}
use Rattle.source_blocks.proofs.EntriesHeld.{found_entry, no_entry}
use Rattle.source_blocks.proofs.holdings.entry_at.Goals as goal

pub held_in-requires : goal.held_in-requires
held_in-requires c =
    let text = c.args.document.now in
    let at = c.args.at in
    let found = ap (λ (blocks : List (List ℕ)). compiled blocks at) (sym c.database.ensures) ∙ sym c.in-Some.ensures in
    let f = found_entry c.each_is_well_read.ensures c.images_are_read.ensures (held text) (c.held_blocks_fit.ensures text).1
    (cause_told text at) at c.requires c.in-Some.bytes.now found in
    (f.names, f.contents, f.reads)

pub returns-in-Some : goal.returns-in-Some
returns-in-Some c =
    let text = c.args.document.now in
    let at = c.args.at in
    let found = ap (λ (blocks : List (List ℕ)). compiled blocks at) (sym c.database.ensures) ∙ sym c.in-Some.ensures in
    let f = found_entry c.each_is_well_read.ensures c.images_are_read.ensures (held text) (c.held_blocks_fit.ensures text).1
    (cause_told text at) at c.requires c.in-Some.bytes.now found in
    ap (λ (h : Holding). entry_held h) (c.held_in.ensures f.names f.contents f.reads) ∙ f.held

pub returns-in_ok-cause_told-in-None : goal.returns-in_ok-cause_told-in-None
returns-in_ok-cause_told-in-None c =
    let text = c.args.document.now in
    let at = c.args.at in
    let none = ap (λ (blocks : List (List ℕ)). compiled blocks at) (sym c.database.ensures) ∙ sym c.in-None.ensures in
    ap entry_faulty c.in_ok-cause_told-in-None.ensures ∙ no_entry (held text) (cause_told text at) at c.requires none
