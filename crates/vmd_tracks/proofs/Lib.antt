pub mod TrackLaws
pub mod DroppedLaws
pub mod Original
pub mod RankedLaws
pub mod MapLaws
