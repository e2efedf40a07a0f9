pub mod SameNode
