pub mod MergeWalk
pub mod TotalLaws
pub mod ScaleLaws
pub mod CommuteLaws
pub mod ProductWalk
pub mod RoomLaws
