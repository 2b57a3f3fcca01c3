use Rattle.xs_demand.proofs.RenamedImages.{image-renamed, drawings-renamed, tints-renamed, reach-renamed, size-renamed, clear-renamed}
use Rattle.xs_demand.proofs.renamed.names_of_drawings_change_no_image.Goals as goal

pub returns : goal.returns
returns c = record {
  images = image-renamed;
  drawings = drawings-renamed;
  tints = tints-renamed;
  reach = reach-renamed;
  size = size-renamed;
  clear = clear-renamed;
}
