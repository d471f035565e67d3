pub mod OwnKind
