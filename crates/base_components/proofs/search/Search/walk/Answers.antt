use Rattle.base_components.proofs.Searching.{walking_begun}
use Rattle.base_components.proofs.search.Search.walk.Goals as goal

pub loop-self-init : goal.loop-self-init
loop-self-init c = walking_begun c.args.graph.now c.args.self.now c.enter.new.self c.args.root c.requires.idle c.requires.unseen c.in_ok-enter.ensures
