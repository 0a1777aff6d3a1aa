-- What an image shows of its fields.
use Rattle.memory_map.specs.Image.{Image, IsLoaded}
use Rattle.image_loader.specs.Shown.{shown_of}
use Rattle.image_loader.specs.declared.image.Image.TheInside.{Inside}

abbrev pub shown : Inside → Image
shown i = shown_of i.segments i.unset i.entry i.format i.names i.align

abbrev pub IsKept : Inside → Type 0
IsKept i = IsLoaded (shown i)
