use Rattle.ti_compiled.proofs.numbers.NumberChangeChange.sizes.Goals as goal

pub returns : goal.returns
returns c =
    let suits = c.requires.suits in
    let change = c.args.self.now in
    c.sizes_with_numbers.ensures.sizes c.args.bytes.now change.index change.number c.requires.image c.requires.old suits.0 suits.1 suits.2
