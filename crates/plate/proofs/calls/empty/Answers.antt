-- `plate::calls::empty` meets its contract: its slots are all empty, so none clash, and its journal is blank. Assumes nothing.
use mathlib.Core.Path.{refl, sym, ◌∙◌}
use lib.ListN.{replicate}
use Rattle.slots.specs.Changes.{replay}
use Rattle.slots.specs.Arrays.{flat}
use Rattle.slots.proofs.Clashing.{none_clash}
use Rattle.keeping.proofs.Past.{blanks}
use Rattle.plate.specs.Histories.{run}
use Rattle.plate.proofs.calls.empty.Goals as goal

pub returns : goal.returns
unfolding run replay flat
returns c = record {
  coords = refl;
  parts = refl;
  count = none_clash 64;
  reach = refl;
  journal = (λ i. replicate 32 (c.blank_entry.ensures i)) ∙ sym (blanks 32);
}
