-- What the types of the code mean in the terms of the definitions. Definitions only.
use Rattle.vmd_season.specs.Season.{SectionFigures, Season, TakeFigures, Mean}
use Rattle.vmd_season.specs.declared.VmdSectionFigures.{VmdSectionFigures}
use Rattle.vmd_season.specs.declared.VmdSeason.{VmdSeason}
use Rattle.vmd_season.specs.declared.VmdTakeFigures.{VmdTakeFigures}
use Rattle.vmd_season.specs.declared.VmdMean.{VmdMean}

abbrev pub section_is : VmdSectionFigures → SectionFigures
section_is x = record { total = x.total; smallest = x.smallest; largest = x.largest }

abbrev pub season_is : VmdSeason → Season
season_is z = record {
  bones = section_is z.bones;
  morphs = section_is z.morphs;
  cameras = section_is z.cameras;
  lights = section_is z.lights;
  self_shadows = section_is z.self_shadows;
  properties = section_is z.properties;
  records = z.records;
  bone_names = z.bone_names;
  morph_names = z.morph_names;
  accepted = z.accepted;
  refused = z.refused;
}

abbrev pub take_is : VmdTakeFigures → TakeFigures
take_is f = record {
  bones = f.counts.bones;
  morphs = f.counts.morphs;
  cameras = f.counts.cameras;
  lights = f.counts.lights;
  self_shadows = f.counts.self_shadows;
  properties = f.counts.properties;
  bone_names = f.bone_names;
  morph_names = f.morph_names;
}

abbrev pub mean_is : VmdMean → Mean
mean_is x = record { quotient = x.quotient; remainder = x.remainder }
