-- Demand 2: our version meets it.
use Rattle.rules.specs.declared.Layout.{Layout}
use Rattle.demands.specs.Ours.{ours}
use Rattle.demands.specs.Demand2.{Demand2}
use Rattle.demands.proofs.Progress.{progress}
use Rattle.demands.proofs.Ours.{demand2_but_progress}

pub demand2 : (layout : Layout) → Demand2 layout (ours layout)
demand2 layout = demand2_but_progress layout (progress layout)
