mod NameRows
mod Rows
pub mod Pieces
pub mod LineReads
pub mod SegmentNumberIn
pub mod Judged
pub mod GoodLines
pub mod FrontReads
pub mod OnlyCommits
pub mod SpelledPieces
pub mod OnlyParts
pub mod OnlyFronts
pub mod OnlyFiles
pub mod WrittenPlans
pub mod LineParts
pub mod LineBack
pub mod WrittenCommits
pub mod PutLemmas
pub mod Cuts
pub mod NameSpelled
pub mod NameParts
pub mod Decimals
pub mod ListedNames
pub mod NameSets
pub mod KeptNames
pub mod OwnFiles
pub mod RemovableNames
